-- Names of constants mean values, also with further names and types.
use Rattle.std.proofs.Common.{◌≡◌, ℕ, ◌+◌, List, [], ◌∷◌, ◌++◌, Option, Some, sym, subst}
use Rattle.bodies_well_formed.specs.type_layout.declared.definitions.TypeId.{TypeId}
use Rattle.bodies_well_formed.specs.type_layout.declared.definitions.Host.TheVariants as host
use Rattle.bodies_well_formed.specs.type_layout.declared.definitions.TypeDef.{TypeDef}
use Rattle.bodies_well_formed.specs.type_layout.declared.definitions.TypeDef.TheVariants as type
use Rattle.bodies_well_formed.specs.type_layout.Table.{Table}
use Rattle.bodies_well_formed.specs.typed_tree.declared.expressions.Value.TheVariants as value
use Rattle.bodies_well_formed.specs.typed_tree.type_fits.Fits.{definition}
use Rattle.bodies_well_formed.specs.scopes.declared.entries.Entry.{Entry}
use Rattle.bodies_well_formed.specs.scopes.declared.entries.Entry.TheVariants as entry
use Rattle.bodies_well_formed.specs.scopes.Symbols.{SymbolList}
use Rattle.bodies_well_formed.specs.scopes.Environment.{Environment, with_name}
use Rattle.bodies_well_formed.specs.rules_well_formed.nodes.Tables.{IsSound}
use Rattle.bodies_well_formed.specs.other_units.Known.{EachOf}
use Rattle.bodies_well_formed.proofs.other_units.Entering.{named_each}
use Rattle.declarations_well_formed.specs.constants.Whole.{IsWholeOrdinal, HasConstants}
use Rattle.declarations_well_formed.proofs.constants.Kept.{constants_kept}
use Rattle.declarations_well_formed.specs.names.Declaring.{typing, with_names, HasSet, IsOfType, AreOfTypes}
use Rattle.declarations_well_formed.specs.values.Values.{IsConstantIn, HasValues}
use Rattle.declarations_well_formed.proofs.values.Each.{Anywhere, each_for, all_for, in_for, found_each}

pub values_named : (g : Environment) (name : List ℕ) (one : Entry) → HasValues g → IsConstantIn g.types.types one → HasValues (with_name g name one)
values_named g name one h k = record {
  predeclared = h.predeclared;
  used = h.used;
  blocks = named_each g name one (Anywhere (IsConstantIn g.types.types)) h.blocks k;
}

pub values_names : (g : Environment) (names : SymbolList) → HasValues g → EachOf (IsConstantIn g.types.types) names → HasValues (with_names g names)
values_names g [] h k = h
values_names g (one ∷ rest) h k = values_names (with_name g one.0 one.1) rest (values_named g one.0 one.1 h k.0) k.1

constant_kept : (types more : List TypeDef) → IsSound types → (one : Entry) → IsConstantIn types one → IsConstantIn (types ++ more) one
constant_kept types more sound (entry.Const ty v) h = constants_kept types more sound ty v h
constant_kept types more sound one h = tt

pub values_typed : (g : Environment) (types : Table) (more : List TypeDef) → types.types ≡ g.types.types ++ more → IsSound g.types.types → HasValues g → HasValues (typing g types)
values_typed g types more is sound h =
    let P : Entry → Type 0 = IsConstantIn g.types.types in
    let Q : Entry → Type 0 = IsConstantIn types.types in
    let follows : (one : Entry) → P one → Q one = λ one k. subst (λ (t : List TypeDef). IsConstantIn t one) (sym is) (constant_kept g.types.types more sound one k) in
    record {
      predeclared = each_for P Q follows g.predeclared h.predeclared;
      used = all_for P Q follows g.used h.used;
      blocks = in_for P Q follows [] g.blocks h.blocks;
    }

pub values_found : (g : Environment) → HasValues g → HasConstants g
values_found g h name number ty v e = found_each (IsConstantIn g.types.types) name number (entry.Const ty v) g h.predeclared h.used h.blocks e

-- ---- values of enumerations

whole_from : (types : List TypeDef) (ty : TypeId) (one : Option TypeDef) → HasSet types ty → IsWholeOrdinal types ty one
whole_from types ty (Some (type.Ordinal host.Enumeration low high)) h = h
whole_from types ty one h = tt

of_type : (types : List TypeDef) (one : Entry) → IsOfType types one → IsConstantIn types one
of_type types (entry.Const ty (value.Number n)) h = record { value = h.0; whole = whole_from types ty (definition types ty) h.1 }
of_type types (entry.Const ty v) h = absurd h
of_type types one h = tt

pub of_types : (types : List TypeDef) (names : SymbolList) → AreOfTypes types names → EachOf (IsConstantIn types) names
of_types types [] h = tt
of_types types (one ∷ rest) h = (of_type types one.1 h.0, of_types types rest h.1)
