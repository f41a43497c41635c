-- Types as they are written.
use Rattle.std.proofs.Common.{◌≡◌, ℕ, ◌+◌, ◌<◌, ◌≤◌, List, [], ◌∷◌, ◌++◌, length, Option, Some, sym, subst, ap, ◌∙◌, length-append, arith}
use Rattle.std.proofs.Math.IntN.{pos}
use Rattle.std.specs.Prelude.{◌≤ℤ◌, slice_get}
use Rattle.std.proofs.lemmas.Int.{ints}
use Rattle.bodies_well_formed.specs.type_layout.declared.definitions.TypeId.{TypeId}
use Rattle.bodies_well_formed.specs.type_layout.declared.definitions.Field.{Field}
use Rattle.bodies_well_formed.specs.type_layout.declared.definitions.Host.TheVariants as host
use Rattle.bodies_well_formed.specs.type_layout.declared.definitions.TypeDef.{TypeDef}
use Rattle.bodies_well_formed.specs.type_layout.declared.definitions.TypeDef.TheVariants as type
use Rattle.bodies_well_formed.specs.type_layout.declared.texts.Place.{Place}
use Rattle.bodies_well_formed.specs.typed_tree.declared.expressions.Value.TheVariants as value
use Rattle.bodies_well_formed.specs.typed_tree.type_fits.Fits.{definition, stored_as}
use Rattle.bodies_well_formed.specs.syntax_tree.declared.identifier.Identifier.{Identifier}
use Rattle.bodies_well_formed.specs.scopes.declared.entries.Entry.TheVariants as entry
use Rattle.bodies_well_formed.specs.scopes.Predeclared.{type_id}
use Rattle.bodies_well_formed.specs.scopes.Environment.{Environment}
use Rattle.bodies_well_formed.specs.typing_rules.declared.faults.Rule.{Rule}
use Rattle.bodies_well_formed.specs.constant_checker.declared.constant_expressions.constants.Constant.{Constant}
use Rattle.imported_types_agree.specs.declaration_checker.type_denoters.Trees as tree
use Rattle.imported_types_agree.specs.declaration_checker.type_denoters.Trees.{Denoter, Denoters, Fields, no_denoters, and_denoter, no_fields, and_fields}
use Rattle.imported_types_agree.specs.declaration_checker.type_denoters.Additions.{Denoted, added}
use Rattle.imported_types_agree.specs.declaration_checker.type_denoters.Denoters.{Ground, Listed, Indexes, with_set, followed, range_of, values_entered, enumeration_of, string_of, array_of, arrays_of, judged, indexes_judged, fields_judged}
use Rattle.bodies_well_formed.proofs.rules_well_formed_proofs.nodes.Ordinals.{holding, value_held}
use Rattle.bodies_well_formed.proofs.well_formed_proofs.weakening.Types.{more_kept, some_of}
use Rattle.declarations_well_formed.specs.names.Declaring.{HasSet, IsOfType, Declares}
use Rattle.declarations_well_formed.proofs.names.Adding.{nothing, behind, entered_is, name_declares, added_is, added_declares, last_is}

-- ---- subranges

set_declares : (unit : List ℕ) (g h : Environment) (place : Place) (base : TypeId) → (with_set unit g place base).holds h → Declares g h
set_declares unit g h place base k = subst (λ (e : Environment). Declares g e) (sym k.made) (added_declares unit g place _ _ k.part k.holds)

followed_declares : (unit : List ℕ) (place : Place) (base : TypeId) (one made : Denoted) → (followed unit place base one).holds made → Declares one.scope made.scope
followed_declares unit place base one made k = subst (λ (m : Denoted). Declares one.scope m.scope) (sym k.made) (set_declares unit one.scope k.part place base k.holds)

range_declares : (unit : List ℕ) (g : Environment) (place : Place) (low high : Constant) (made : Denoted) → (range_of unit g place low high).holds made → Declares g made.scope
unfolding range_of
range_declares unit g place low high made k =
    let ordinal = k.made in
    behind g ordinal.part.scope made.scope (added_declares unit g place _ _ ordinal.part ordinal.holds) (followed_declares unit place _ ordinal.part made ordinal.made)

-- ---- enumerations

value_known : (types : List TypeDef) (ty : TypeId) (number : ℕ) → number < 256 → stored_as (definition types ty) ≡ Some host.Enumeration → HasSet types ty
    → IsOfType types (entry.Const ty (value.Number (pos number)))
value_known types ty number h stored set =
    let least : pos 0 ≤ℤ pos number = omega (arith, ints) in
    let most : pos number ≤ℤ pos 255 = omega (arith, ints, h) in
    (value_held types (definition types ty) host.Enumeration (pos number) stored (holding host.Enumeration (pos number) least most), set)

values_declare : (g h : Environment) (ty : TypeId) (number : ℕ) (names : List Identifier) → number + length names ≤ 256 → stored_as (definition g.types.types ty) ≡ Some host.Enumeration
    → HasSet g.types.types ty → (values_entered g ty number names).holds h → Declares g h
values_declare g h ty number [] few stored set k = subst (λ (e : Environment). Declares g e) (sym k) (nothing g)
values_declare g h ty number (one ∷ rest) few stored set k =
    let below : number < 256 = omega (arith, few) in
    let first = name_declares g k.part one.position.place one.name (entry.Const ty (value.Number (pos number))) (value_known g.types.types ty number below stored set) k.holds in
    let is = entered_is g k.part one.position.place one.name (entry.Const ty (value.Number (pos number))) k.holds in
    let still : stored_as (definition k.part.types.types ty) ≡ Some host.Enumeration = ap (λ (e : Environment). stored_as (definition e.types.types ty)) is ∙ stored in
    let there : HasSet k.part.types.types ty = ap (λ (e : Environment). definition e.types.types (type_id (ty.0 + 1))) is ∙ set in
    behind g k.part h first (values_declare k.part h ty (number + 1) rest (omega (arith, few)) still there k.made)

-- the set that follows a type is the next type
set_behind : (unit : List ℕ) (g h : Environment) (place : Place) (asked : Rule) (one : TypeDef) (made : Denoted) (base : TypeId) → (added unit g place asked one).holds made
    → (with_set unit made.scope place base).holds h → definition h.types.types (type_id (made.ty.0 + 1)) ≡ Some (type.SetOf base)
set_behind unit g h place asked one made base first k =
    let is = added_is unit g place asked one made first in
    let next = added_is unit made.scope place _ (type.SetOf base) k.part k.holds in
    let at : k.part.ty.0 ≡ length made.scope.types.types = ap (λ (m : Denoted). m.ty.0) next in
    let types : length made.scope.types.types ≡ length (g.types.types ++ one ∷ []) = ap (λ (m : Denoted). length m.scope.types.types) is in
    let number : made.ty.0 ≡ length g.types.types = ap (λ (m : Denoted). m.ty.0) is in
    let longer = length-append g.types.types (one ∷ []) in
    let same : made.ty.0 + 1 ≡ k.part.ty.0 = omega (arith, at, types, number, longer) in
    ap (λ (e : Environment). definition e.types.types (type_id (made.ty.0 + 1))) k.made ∙ ap (λ (n : ℕ). slice_get k.part.scope.types.types n) same
    ∙ last_is unit made.scope place _ (type.SetOf base) k.part k.holds

enumeration_declares : (unit : List ℕ) (g : Environment) (place : Place) (names : List Identifier) (made : Denoted) → (enumeration_of unit g place names).holds made → Declares g made.scope
unfolding enumeration_of
enumeration_declares unit g place names made k =
    let few = k.holds in
    let small = few.asked in
    let ordinal = k.made in
    let over = ordinal.made in
    let values = over.made in
    let one = added_declares unit g place _ _ ordinal.part ordinal.holds in
    let set = set_declares unit ordinal.part.scope over.part place ordinal.part.ty over.holds in
    let back = set.more in
    let before = last_is unit g place _ _ ordinal.part ordinal.holds in
    let kept = more_kept ordinal.part.scope.types.types back.0 ordinal.part.ty (some_of (definition ordinal.part.scope.types.types ordinal.part.ty) _ before) in
    let stored : stored_as (definition over.part.types.types ordinal.part.ty) ≡ Some host.Enumeration =
    ap (λ (t : List TypeDef). stored_as (definition t ordinal.part.ty)) back.1 ∙ ap (λ (d : Option TypeDef). stored_as d) (kept ∙ before) in
    let behind_it = set_behind unit g over.part place _ _ ordinal.part ordinal.part.ty ordinal.holds over.holds in
    let named = values_declare over.part values.part ordinal.part.ty 0 names (omega (arith, small)) stored behind_it values.holds in
    let whole : Declares g values.part = behind g over.part values.part (behind g ordinal.part.scope over.part one set) named in
    subst (λ (m : Denoted). Declares g m.scope) (sym values.made) whole

-- ---- arrays and strings

string_declares : (unit : List ℕ) (g : Environment) (place : Place) (size : Constant) (made : Denoted) → (string_of unit g place size).holds made → Declares g made.scope
unfolding string_of
string_declares unit g place size made k = added_declares unit g place _ _ made k.made

array_declares : (unit : List ℕ) (g : Environment) (place : Place) (index element : TypeId) (made : Denoted) → (array_of unit g place index element).holds made → Declares g made.scope
unfolding array_of
array_declares unit g place index element made k = added_declares unit g place _ _ made k.made

arrays_declare : (unit : List ℕ) (place : Place) (all : List TypeId) (element made : Denoted) → (arrays_of unit place all element).holds made → Declares element.scope made.scope
arrays_declare unit place [] element made k = subst (λ (m : Denoted). Declares element.scope m.scope) (sym k) (nothing element.scope)
arrays_declare unit place (index ∷ rest) element made k =
    behind element.scope k.part.scope made.scope (array_declares unit element.scope place index element.ty k.part k.holds) (arrays_declare unit place rest k.part made k.made)

-- ---- all types

mutual
  pub type_declares : (d : Denoter) (on : Ground) (g : Environment) (made : Denoted) → (judged on g d).holds made → Declares g made.scope
  type_declares (tree.named one) on g made k = subst (λ (m : Denoted). Declares g m.scope) (sym k.made) (nothing g)
  type_declares (tree.range low high) on g made k = range_declares on.unit g _ k.left k.right made k.made
  type_declares (tree.enumeration place all) on g made k = enumeration_declares on.unit g place all made k
  type_declares (tree.pointer one) on g made k = added_declares on.unit g one.position.place _ _ made k.made
  type_declares tree.string on g made k = subst (λ (m : Denoted). Declares g m.scope) (sym k) (nothing g)
  type_declares (tree.sized place size) on g made k = string_declares on.unit g place k.part made k.made
  type_declares (tree.procedure place groups) on g made k = added_declares on.unit g place _ _ made k.made
  type_declares (tree.function place groups result) on g made k = added_declares on.unit g place _ _ made k.made
  type_declares (tree.object place ancestor all methods) on g made k = absurd k
  type_declares (tree.array place all element) on g made k =
      let inner = k.made in
      let first = indexes_declare all on g [] k.part k.holds in
      let second = type_declares element on k.part.scope inner.part inner.holds in
      behind g inner.part.scope made.scope (behind g k.part.scope inner.part.scope first second) (arrays_declare on.unit place k.part.types inner.part made inner.made)
  type_declares (tree.record_of place all) on g made k =
      behind g k.part.scope made.scope (fields_declare all on g [] k.part k.holds) (added_declares on.unit k.part.scope place _ _ made k.made)
  type_declares (tree.set place element) on g made k =
      behind g k.part.scope made.scope (type_declares element on g k.part k.holds) (added_declares on.unit k.part.scope place _ _ made k.made)

  indexes_declare : (all : Denoters) (on : Ground) (g : Environment) (before : List TypeId) (i : Indexes) → (indexes_judged on g before all).holds i → Declares g i.scope
  indexes_declare no_denoters on g before i k = subst (λ (x : Indexes). Declares g x.scope) (sym k) (nothing g)
  indexes_declare (and_denoter one rest) on g before i k =
      behind g k.part.scope i.scope (type_declares one on g k.part k.holds) (indexes_declare rest on k.part.scope (k.part.ty ∷ before) i k.made)

  pub fields_declare : (all : Fields) (on : Ground) (g : Environment) (before : List Field) (l : Listed) → (fields_judged on g before all).holds l → Declares g l.scope
  fields_declare no_fields on g before l k = subst (λ (x : Listed). Declares g x.scope) (sym k) (nothing g)
  fields_declare (and_fields names one rest) on g before l k =
      let inner = k.made in
      behind g k.part.scope l.scope (type_declares one on g k.part k.holds) (fields_declare rest on k.part.scope inner.part l inner.made)
