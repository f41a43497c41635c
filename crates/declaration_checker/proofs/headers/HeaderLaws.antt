-- Names of types and headers are judged lawfully.
use Rattle.std.proofs.Common.{◌≡◌, ◌≤◌, ℕ, ◌++◌, ◌∷◌, [], Bool, true, false, not, nat_le, List, Option, Some, None, Decides, refl}
use Rattle.std.proofs.lemmas.Bool.{leb-true, le-leb}
use Rattle.type_layout.specs.declared.definitions.TypeId.{TypeId}
use Rattle.type_layout.specs.declared.definitions.Param.{Param}
use Rattle.type_layout.specs.declared.definitions.Kind.{Kind}
use Rattle.type_layout.specs.declared.definitions.Kind.TheVariants as kind
use Rattle.type_layout.specs.declared.definitions.Header.{Header}
use Rattle.type_layout.specs.declared.definitions.TypeDef.{TypeDef}
use Rattle.type_layout.specs.declared.texts.Place.{Place}
use Rattle.tp_lexer.specs.declared.token.Feature.{Feature}
use Rattle.tp_lexer.specs.left_out_names.Names.{feature_of}
use Rattle.syntax_tree.specs.declared.identifier.Identifier.{Identifier}
use Rattle.syntax_tree.specs.declared.type_tree.parameter.NamedType.{NamedType}
use Rattle.syntax_tree.specs.declared.type_tree.parameter.NamedType.TheVariants as t
use Rattle.syntax_tree.specs.declared.type_tree.parameter.ParameterGroup.{ParameterGroup}
use Rattle.syntax_tree.specs.declared.type_tree.parameter.ParameterGroup.TheVariants as group
use Rattle.syntax_tree.specs.declared.type_tree.parameter.MethodHeader.{MethodHeader}
use Rattle.syntax_tree.specs.declared.type_tree.parameter.MethodHeader.TheVariants as method
use Rattle.syntax_tree.specs.declared.source_tree.declaration.RoutineHeader.{RoutineHeader}
use Rattle.syntax_tree.specs.declared.source_tree.declaration.RoutineHeader.TheVariants as routine
use Rattle.scopes.specs.declared.entries.Entry.{Entry}
use Rattle.scopes.specs.declared.entries.Entry.TheVariants as entry
use Rattle.scopes.specs.Environment.{Environment, Meaning, named, member, find}
use Rattle.typing_rules.specs.declared.faults.Rule.TheVariants as rules
use Rattle.typing_rules.specs.declared.sorts.Sort.{Sort}
use Rattle.typing_rules.specs.declared.sorts.Sort.TheVariants as sort
use Rattle.typing_rules.specs.Faults.{broken, too_large}
use Rattle.typing_rules.specs.Laws.{Lawful}
use Rattle.typing_rules.specs.Sorts.{sort_of_type}
use Rattle.typing_rules.proofs.JudgementLaws.{lawful_makes, lawful_refuses, lawful_rule, lawful_part, lawful_parts}
use Rattle.typing_rules.proofs.PlanLaws.{yes, no}
use Rattle.declaration_checker.specs.headers.Names.{of_entry, of_meaning, type_named, named_type}
use Rattle.declaration_checker.specs.headers.Parameters.{has_param, param, is_new, names_onto, group_onto, groups_onto, parameters}
use Rattle.declaration_checker.specs.headers.Headers.{IsResult, is_result, result_of, header_bytes, of_parts, limited, procedure_header, function_header, routine_header, method_header}

-- ---- names of types

lawful_entry : (place : Place) (one : Entry) → Lawful (of_entry place one)
lawful_entry place (entry.Ty ty) = lawful_makes _
lawful_entry place (entry.Const ty v) = lawful_refuses _
lawful_entry place (entry.Var unit level n ty) = lawful_refuses _
lawful_entry place (entry.Code routine level header far) = lawful_refuses _
lawful_entry place (entry.Std n) = lawful_refuses _

lawful_meaning : (place : Place) (feature : Option Feature) (one : Option Meaning) → Lawful (of_meaning place feature one)
lawful_meaning place feature None = lawful_refuses _
lawful_meaning place feature (Some (named n one)) = lawful_entry place one
lawful_meaning place feature (Some (member n one)) = lawful_refuses _

pub lawful_type_named : (g : Environment) (place : Place) (name : List ℕ) → Lawful (type_named g place name)
unfolding type_named
lawful_type_named g place name = lawful_meaning place (feature_of name) (find g name)

pub lawful_named_type : (g : Environment) (one : NamedType) → Lawful (named_type g one)
lawful_named_type g (t.Name i) = lawful_type_named g i.position.place i.name
lawful_named_type g (t.String here) = lawful_makes _

-- ---- parameters

pub tells_not : (b : Bool) → Decides (not b) (b ≡ false)
tells_not true = (λ e. cc, λ e. cc)
tells_not false = (λ e. refl, λ e. refl)

lawful_new : (params : List Param) (one : Identifier) → Lawful (is_new params one)
lawful_new params one = lawful_rule (broken one.position.place rules.Duplicate) (not (has_param params one.name)) (has_param params one.name ≡ false) tt (tells_not (has_param params one.name))

lawful_names : (params : List Param) (by_ref : Bool) (ty : TypeId) (names : List Identifier) → Lawful (names_onto params by_ref ty names)
lawful_names params by_ref ty [] = lawful_makes _
lawful_names params by_ref ty (one ∷ rest) =
    lawful_part (is_new params one) (λ u. names_onto (params ++ param by_ref ty one.name ∷ []) by_ref ty rest) (lawful_new params one)
    (λ u. lawful_names (params ++ param by_ref ty one.name ∷ []) by_ref ty rest)

lawful_group : (g : Environment) (params : List Param) (one : ParameterGroup) → Lawful (group_onto g params one)
lawful_group g params (group.Variable here names of_type) =
    lawful_part (named_type g of_type) (λ ty. names_onto params true ty names.items) (lawful_named_type g of_type) (λ ty. lawful_names params true ty names.items)
lawful_group g params (group.Value names of_type) =
    lawful_part (named_type g of_type) (λ ty. names_onto params false ty names.items) (lawful_named_type g of_type) (λ ty. lawful_names params false ty names.items)

lawful_groups : (g : Environment) (params : List Param) (groups : List ParameterGroup) → Lawful (groups_onto g params groups)
lawful_groups g params [] = lawful_makes _
lawful_groups g params (one ∷ rest) =
    lawful_part (group_onto g params one) (λ all. groups_onto g all rest) (lawful_group g params one) (λ all. lawful_groups g all rest)

-- ---- headers

tells_result : (s : Sort) → Decides (is_result s) (IsResult s)
tells_result (sort.Integer r) = yes
tells_result sort.Boolean = yes
tells_result sort.Char = yes
tells_result (sort.Enumeration ty) = yes
tells_result sort.Text = yes
tells_result (sort.Set base) = no
tells_result sort.Pointer = yes
tells_result sort.Nil = no
tells_result sort.Other = no

lawful_result : (g : Environment) (place : Place) (one : Option NamedType) → Lawful (result_of g place one)
lawful_result g place None = lawful_refuses _
lawful_result g place (Some one) =
    lawful_part (named_type g one) (λ ty. _) (lawful_named_type g one)
    (λ ty. lawful_rule (broken place rules.ResultType) (is_result (sort_of_type g.types.types ty)) (IsResult (sort_of_type g.types.types ty)) ty (tells_result (sort_of_type g.types.types ty)))

tells_within : (n limit : ℕ) → Decides (nat_le n limit) (n ≤ limit)
tells_within n limit = (leb-true n limit, le-leb n limit)

lawful_limited : (types : List TypeDef) (is_method : Bool) (place : Place) (header : Header) → Lawful (limited types is_method place header)
lawful_limited types is_method place header =
    lawful_rule (too_large place (header_bytes types is_method header)) (nat_le (header_bytes types is_method header) 256) _ header (tells_within (header_bytes types is_method header) 256)

module _ (g : Environment) (is_method : Bool) (place : Place) where
  pub lawful_procedure : (one : Kind) (groups : List ParameterGroup) → Lawful (procedure_header g is_method place one groups)
  lawful_procedure one groups =
      lawful_part (parameters g groups) (λ params. limited g.types.types is_method place (of_parts one params None)) (lawful_groups g [] groups)
      (λ params. lawful_limited g.types.types is_method place (of_parts one params None))

  pub lawful_function : (groups : List ParameterGroup) (result : Option NamedType) → Lawful (function_header g is_method place groups result)
  lawful_function groups result =
      lawful_parts (parameters g groups) (result_of g place result) (λ params ty. limited g.types.types is_method place (of_parts kind.Function params (Some ty)))
      (lawful_groups g [] groups) (lawful_result g place result)
      (λ params ty. lawful_limited g.types.types is_method place (of_parts kind.Function params (Some ty)))

pub lawful_routine : (g : Environment) (one : RoutineHeader) → Lawful (routine_header g one)
lawful_routine g (routine.Procedure here name groups) = lawful_procedure g false here.place kind.Procedure groups.items
lawful_routine g (routine.Function here name groups result) = lawful_function g false here.place groups.items result

pub lawful_method : (g : Environment) (one : MethodHeader) → Lawful (method_header g one)
lawful_method g (method.Procedure here name groups) = lawful_procedure g true here.place kind.Procedure groups.items
lawful_method g (method.Function here name groups result) = lawful_function g true here.place groups.items result
lawful_method g (method.Constructor here name groups) = lawful_procedure g true here.place kind.Constructor groups.items
lawful_method g (method.Destructor here name groups) = lawful_procedure g true here.place kind.Destructor groups.items
