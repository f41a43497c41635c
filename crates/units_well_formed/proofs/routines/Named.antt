-- The types that headers name are those that names mean, which are in the table.
use Rattle.std.proofs.Common.{◌≡◌, ℕ, ◌<◌, length, Bool, true, false, All, List, [], ◌∷◌, ◌++◌, Option, Some, None, refl, sym, subst}
use Rattle.std.proofs.lemmas.List.Elements.{All-nil, All-push, All-weaker}
use Rattle.declarations_well_formed.specs.type_layout.declared.definitions.TypeId.{TypeId}
use Rattle.declarations_well_formed.specs.type_layout.declared.definitions.Kind.{Kind}
use Rattle.declarations_well_formed.specs.type_layout.declared.definitions.Kind.TheVariants as kind
use Rattle.declarations_well_formed.specs.type_layout.declared.definitions.Param.{Param}
use Rattle.declarations_well_formed.specs.type_layout.declared.definitions.Header.{Header}
use Rattle.declarations_well_formed.specs.type_layout.declared.definitions.TypeDef.{TypeDef}
use Rattle.declarations_well_formed.specs.type_layout.declared.texts.Place.{Place}
use Rattle.declarations_well_formed.specs.syntax_tree.declared.identifier.Identifier.{Identifier}
use Rattle.declarations_well_formed.specs.tp_lexer.declared.token.Feature.{Feature}
use Rattle.declarations_well_formed.specs.tp_lexer.left_out_names.Names.{feature_of}
use Rattle.declarations_well_formed.specs.syntax_tree.declared.type_tree.parameter.NamedType.{NamedType}
use Rattle.declarations_well_formed.specs.syntax_tree.declared.type_tree.parameter.NamedType.TheVariants as t
use Rattle.declarations_well_formed.specs.syntax_tree.declared.type_tree.parameter.ParameterGroup.{ParameterGroup}
use Rattle.declarations_well_formed.specs.syntax_tree.declared.type_tree.parameter.ParameterGroup.TheVariants as group
use Rattle.declarations_well_formed.specs.syntax_tree.declared.source_tree.declaration.RoutineHeader.{RoutineHeader}
use Rattle.declarations_well_formed.specs.syntax_tree.declared.source_tree.declaration.RoutineHeader.TheVariants as routine
use Rattle.declarations_well_formed.specs.scopes.declared.entries.Entry.{Entry}
use Rattle.declarations_well_formed.specs.scopes.declared.entries.Entry.TheVariants as entry
use Rattle.declarations_well_formed.specs.scopes.Environment.{Environment, Meaning, named, member, find}
use Rattle.declarations_well_formed.specs.typing_rules.Sorts.{string}
use Rattle.declarations_well_formed.specs.declaration_checker.headers.Names.{of_entry, of_meaning, type_named, named_type}
use Rattle.declarations_well_formed.specs.declaration_checker.headers.Parameters.{param, names_onto, group_onto, groups_onto, parameters}
use Rattle.declarations_well_formed.specs.declaration_checker.headers.Headers.{result_of, of_parts, procedure_header, function_header, routine_header}
use Rattle.declarations_well_formed.specs.rules_well_formed.nodes.Tables.{IsInTable, IsResultIn, IsHeaderIn}
use Rattle.declarations_well_formed.proofs.rules_well_formed_proofs.nodes.Fields.{some_within}

abbrev pub ResultBelow : ℕ → Option TypeId → Type 0
ResultBelow n None = Unit {0}
ResultBelow n (Some ty) = ty.0 < n

-- the types of the parameters and of the result
pub record HeaderBelow (n : ℕ) (header : Header) : Type 0 where
  pub params : All (λ (param : Param). param.ty.0 < n) header.params
  pub result : ResultBelow n header.result

-- each name of a type that is known, and `string`
pub record NamesBelow (n : ℕ) (g : Environment) : Type 0 where
  pub names : (name : List ℕ) (number : ℕ) (ty : TypeId) → find g name ≡ Some (named number (entry.Ty ty)) → ty.0 < n
  pub string : string.0 < n

module _ (n : ℕ) (g : Environment) (known : NamesBelow n g) where
  abbrev Below : TypeId → Type 0
  Below ty = ty.0 < n

  abbrev ParamIn : Param → Type 0
  ParamIn one = Below one.ty

  entry_in : (place : Place) (name : List ℕ) (k : ℕ) (one : Entry) (ty : TypeId) → find g name ≡ Some (named k one) → (of_entry place one).holds ty → Below ty
  entry_in place name k (entry.Ty own) ty is h = subst Below (sym h) (known.names name k own is)
  entry_in place name k one ty is h = absurd h

  meaning_in : (place : Place) (name : List ℕ) (feature : Option Feature) (m : Option Meaning) (ty : TypeId) → find g name ≡ m → (of_meaning place feature m).holds ty → Below ty
  meaning_in place name feature None ty is h = absurd h
  meaning_in place name feature (Some (named k one)) ty is h = entry_in place name k one ty is h
  meaning_in place name feature (Some (member k one)) ty is h = absurd h

  named_in : (place : Place) (name : List ℕ) (ty : TypeId) → (type_named g place name).holds ty → Below ty
  unfolding type_named
  named_in place name ty h = meaning_in place name (feature_of name) (find g name) ty refl h

  one_in : (one : NamedType) (ty : TypeId) → (named_type g one).holds ty → Below ty
  one_in (t.Name i) ty h = named_in i.position.place i.name ty h
  one_in (t.String here) ty h = subst Below (sym h) known.string

  -- ---- parameters

  pushed : (all : List Param) (one : Param) → All ParamIn all → ParamIn one → All ParamIn (all ++ one ∷ [])
  pushed all one h k = All-push ParamIn all one h k

  names_in : (params : List Param) (by_ref : Bool) (ty : TypeId) (names : List Identifier) (all : List Param) → All ParamIn params → Below ty → (names_onto params by_ref ty names).holds all → All ParamIn all
  names_in params by_ref ty [] all h k made = subst (λ (x : List Param). All ParamIn x) (sym made) h
  names_in params by_ref ty (one ∷ names) all h k made =
      names_in (params ++ param by_ref ty one.name ∷ []) by_ref ty names all (pushed params (param by_ref ty one.name) h k) k made.made

  group_in : (params : List Param) (one : ParameterGroup) (all : List Param) → All ParamIn params → (group_onto g params one).holds all → All ParamIn all
  group_in params (group.Variable here names of_type) all h made = names_in params true made.part names.items all h (one_in of_type made.part made.holds) made.made
  group_in params (group.Value names of_type) all h made = names_in params false made.part names.items all h (one_in of_type made.part made.holds) made.made

  groups_in : (params : List Param) (groups : List ParameterGroup) (all : List Param) → All ParamIn params → (groups_onto g params groups).holds all → All ParamIn all
  groups_in params [] all h made = subst (λ (x : List Param). All ParamIn x) (sym made) h
  groups_in params (one ∷ groups) all h made = groups_in made.part groups all (group_in params one made.part h made.holds) made.made

  parameters_in : (groups : List ParameterGroup) (all : List Param) → (parameters g groups).holds all → All ParamIn all
  parameters_in groups all made = groups_in [] groups all (All-nil ParamIn) made

  -- ---- headers

  result_in : (place : Place) (result : Option NamedType) (ty : TypeId) → (result_of g place result).holds ty → Below ty
  result_in place None ty h = absurd h
  result_in place (Some one) ty h = subst Below (sym h.made.made) (one_in one h.part h.holds)

  of_header : (kind : Kind) (params : List Param) (result : Option TypeId) → All ParamIn params → ResultBelow n result → HeaderBelow n (of_parts kind params result)
  of_header kind params result h k = record { params = h; result = k }

  procedure_in : (is_method : Bool) (place : Place) (kind : Kind) (groups : List ParameterGroup) (header : Header) → (procedure_header g is_method place kind groups).holds header → HeaderBelow n header
  procedure_in is_method place kind groups header h =
      let made = h.made in
      subst (λ (x : Header). HeaderBelow n x) (sym made.made) (of_header kind h.part None (parameters_in groups h.part h.holds) tt)

  function_in : (is_method : Bool) (place : Place) (groups : List ParameterGroup) (result : Option NamedType) (header : Header) → (function_header g is_method place groups result).holds header → HeaderBelow n header
  function_in is_method place groups result header h =
      let made = h.made in
      subst (λ (x : Header). HeaderBelow n x) (sym made.made)
      (of_header kind.Function h.left (Some h.right) (parameters_in groups h.left h.left_holds) (result_in place result h.right h.right_holds))

  pub routine_in : (one : RoutineHeader) (header : Header) → (routine_header g one).holds header → HeaderBelow n header
  routine_in (routine.Procedure here name groups) header h = procedure_in false here.place kind.Procedure groups.items header h
  routine_in (routine.Function here name groups result) header h = function_in false here.place groups.items result header h

-- ---- tables

result_there : (types : List TypeDef) (result : Option TypeId) → ResultBelow (length types) result → IsResultIn types result
result_there types None h = tt
result_there types (Some ty) h = some_within types ty.0 h

pub header_there : (types : List TypeDef) (header : Header) → HeaderBelow (length types) header → IsHeaderIn types header
header_there types header h = record {
  params = All-weaker (λ (param : Param). param.ty.0 < length types) (λ (param : Param). IsInTable types param.ty) (λ param k. some_within types param.ty.0 k) header.params h.params;
  result = result_there types header.result h.result;
}
