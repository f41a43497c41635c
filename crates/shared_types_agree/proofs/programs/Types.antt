-- Types and parts of type declarations keep what stays with each type of the unit.
use Rattle.std.proofs.Common.{◌≡◌, ◌∙◌, refl, false, ℕ, ◌+◌, List, [], ◌∷◌, Option, Some, None, ap, subst}
use Rattle.std.specs.Prelude.{ℤ}
use Rattle.unit_references.specs.type_layout.declared.definitions.TypeId.{TypeId}
use Rattle.unit_references.specs.type_layout.declared.definitions.Field.{Field}
use Rattle.unit_references.specs.type_layout.declared.definitions.TypeDef.{TypeDef}
use Rattle.unit_references.specs.type_layout.declared.definitions.TypeDef.TheVariants.{SetOf}
use Rattle.unit_references.specs.type_layout.declared.texts.Place.{Place}
use Rattle.unit_references.specs.type_layout.Table.{IsAddable, place_of}
use Rattle.units_well_formed.specs.syntax_tree.declared.identifier.Identifier.{Identifier}
use Rattle.units_well_formed.specs.syntax_tree.declared.type_tree.parameter.Method as written
use Rattle.units_well_formed.specs.syntax_tree.declared.type_tree.types.TypeDenoter.{TypeDenoter}
use Rattle.units_well_formed.specs.syntax_tree.declared.type_tree.types.TypeDenoter.TheVariants as t
use Rattle.units_well_formed.specs.syntax_tree.declared.source_tree.declaration.TypeDeclaration.{TypeDeclaration}
use Rattle.units_well_formed.specs.scopes.declared.entries.Entry.{Entry}
use Rattle.units_well_formed.specs.scopes.Environment.{Environment}
use Rattle.units_well_formed.specs.typing_rules.declared.faults.Rule.{Rule}
use Rattle.units_well_formed.specs.typing_rules.declared.faults.Rule.TheVariants as rules
use Rattle.units_well_formed.specs.typing_rules.declared.sorts.Sort.{Sort}
use Rattle.units_well_formed.specs.constant_checker.declared.constant_expressions.constants.Constant.{Constant}
use Rattle.units_well_formed.specs.unit_interface.Misfits.{is_enumeration}
use Rattle.units_well_formed.specs.declaration_checker.type_denoters.Trees.{Denoter, Denoters, Fields, named, range, enumeration, pointer, string, sized, procedure, function, object, array, record_of, set, no_denoters, and_denoter, no_fields, and_fields, view_denoter, view_field_row}
use Rattle.units_well_formed.specs.declaration_checker.type_denoters.Additions.{Denoted, with_type_of, added, entered}
use Rattle.units_well_formed.specs.typing_rules.Sorts.{sort_of_type}
use Rattle.units_well_formed.specs.constant_checker.constant_expressions.Values.{number_of}
use Rattle.units_well_formed.specs.syntax_tree.expression_tree.Places.{first_place}
use Rattle.units_well_formed.specs.declaration_checker.type_denoters.Denoters.{set_base_of, ground, with_set, range_by, range_of, values_entered, enumeration_of, Ground, string_of, array_of, arrays_of, Listed, Indexes, judged, indexes_judged, fields_judged}
use Rattle.units_well_formed.specs.declaration_checker.type_parts.Promised.{promises}
use Rattle.units_well_formed.specs.declaration_checker.type_parts.Objects.{inside, object_allowed}
use Rattle.units_well_formed.specs.declaration_checker.type_parts.Parts.{whole, next_routine, types_declared, type_part}
use Rattle.shared_types_agree.specs.programs.Methods.{HasDeclaredMethods}
use Rattle.shared_types_agree.proofs.programs.Methods.{methods_declared}
use Rattle.shared_types_agree.proofs.programs.Keeping.{KeepsTo, unchanged, same_table, next, one_more, two_more}

-- what is known with a type
same_scope : (unit : List ℕ) (g : Environment) (one other : Denoted) → one ≡ other → KeepsTo unit g other.scope → KeepsTo unit g one.scope
same_scope unit g one other e grows = same_table unit g other.scope one.scope (ap (λ (d : Denoted). d.scope) e) grows

added_is : (unit : List ℕ) (g : Environment) (place : Place) (asked : Rule) (one : TypeDef) (made : Denoted) → (added unit g place asked one).holds made → made.scope ≡ with_type_of unit g one
unfolding added
added_is unit g place asked one made h = ap (λ (d : Denoted). d.scope) h.made.made

added_fits : (unit : List ℕ) (g : Environment) (place : Place) (asked : Rule) (one : TypeDef) (made : Denoted) → (added unit g place asked one).holds made → IsAddable g.types unit one
unfolding added
added_fits unit g place asked one made h = h.holds.asked

added_keeps : (unit : List ℕ) (g : Environment) (place : Place) (asked : Rule) (one : TypeDef) (made : Denoted) → (added unit g place asked one).holds made → is_enumeration (Some one) ≡ false
    → HasDeclaredMethods one → KeepsTo unit g made.scope
added_keeps unit g place asked one made h other methods =
    same_table unit g (with_type_of unit g one) made.scope (added_is unit g place asked one made h) (one_more unit g one other methods (added_fits unit g place asked one made h))

pub entered_keeps : (unit : List ℕ) (g : Environment) (place : Place) (name : List ℕ) (one : Entry) (h : Environment) → (entered g place name one).holds h → KeepsTo unit g h
unfolding entered
entered_keeps unit g place name one h e = same_table unit g _ h e.made (unchanged unit g _ refl)

-- ---- types

module _ (unit : List ℕ) where
  -- a type, and the set behind it
  set_behind : (g : Environment) (first place : Place) (asked : Rule) (one : TypeDef) (base : TypeId) (made : Denoted) (h : Environment)
      → (added unit g first asked one).holds made → (with_set unit made.scope place base).holds h → HasDeclaredMethods one → KeepsTo unit g h
  set_behind g first place asked one base made h begun over methods =
      let to = added_is unit made.scope place rules.SetBase (SetOf base) over.part over.holds in
      let from = added_is unit g first asked one made begun in
      same_table unit g (with_type_of unit (with_type_of unit g one) (SetOf base)) h
      (over.made ∙ to ∙ ap (λ (k : Environment). with_type_of unit k (SetOf base)) from)
      (two_more unit g one (SetOf base) refl methods tt (added_fits unit g first asked one made begun)
      (subst (λ (k : Environment). IsAddable k.types unit (SetOf base)) from (added_fits unit made.scope place rules.SetBase (SetOf base) over.part over.holds)))

  range_by_keeps : (g : Environment) (place : Place) (s t : Sort) (low high : ℤ) (made : Denoted) → (range_by unit g place s t low high).holds made → KeepsTo unit g made.scope
  range_by_keeps g place s t low high made e =
      let one = e.made in
      let over = one.made in
      same_scope unit g made _ over.made (set_behind g place place rules.Constant _ (set_base_of s) one.part over.part one.holds over.holds tt)

  range_keeps : (g : Environment) (place : Place) (low high : Constant) (made : Denoted) → (range_of unit g place low high).holds made → KeepsTo unit g made.scope
  unfolding range_of
  range_keeps g place low high made e = range_by_keeps g place (sort_of_type g.types.types low.ty) (sort_of_type g.types.types high.ty) (number_of low.value) (number_of high.value) made e

  values_keep : (g : Environment) (ty : TypeId) (number : ℕ) (names : List Identifier) (h : Environment) → (values_entered g ty number names).holds h → KeepsTo unit g h
  values_keep g ty number [] h e = same_table unit g g h e (unchanged unit g _ refl)
  values_keep g ty number (one ∷ rest) h e = next unit g e.part h (entered_keeps unit g _ _ _ e.part e.holds) (values_keep e.part ty (number + 1) rest h e.made)

  enumeration_keeps : (g : Environment) (place : Place) (names : List Identifier) (made : Denoted) → (enumeration_of unit g place names).holds made → KeepsTo unit g made.scope
  unfolding enumeration_of
  enumeration_keeps g place names made e =
      let one = e.made in
      let two = one.made in
      let three = two.made in
      next unit g two.part made.scope (set_behind g place place rules.Constant _ one.part.ty one.part two.part one.holds two.holds tt)
      (same_scope unit two.part made _ three.made (values_keep two.part one.part.ty 0 names three.part three.holds))

  string_keeps : (g : Environment) (place : Place) (size : Constant) (made : Denoted) → (string_of unit g place size).holds made → KeepsTo unit g made.scope
  unfolding string_of
  string_keeps g place size made e = added_keeps unit g _ _ _ made e.made refl tt

  array_keeps : (g : Environment) (place : Place) (index element : TypeId) (made : Denoted) → (array_of unit g place index element).holds made → KeepsTo unit g made.scope
  unfolding array_of
  array_keeps g place index element made e = added_keeps unit g _ _ _ made e.made refl tt

  arrays_keep : (place : Place) (types : List TypeId) (element made : Denoted) → (arrays_of unit place types element).holds made → KeepsTo unit element.scope made.scope
  arrays_keep place [] element made e = same_scope unit element.scope made element e (unchanged unit element.scope _ refl)
  arrays_keep place (index ∷ rest) element made e =
      next unit element.scope e.part.scope made.scope (array_keeps element.scope place index element.ty e.part e.holds) (arrays_keep place rest e.part made e.made)

same_indexes : (unit : List ℕ) (g : Environment) (one other : Indexes) → one ≡ other → KeepsTo unit g other.scope → KeepsTo unit g one.scope
same_indexes unit g one other e grows = same_table unit g other.scope one.scope (ap (λ (d : Indexes). d.scope) e) grows

same_fields : (unit : List ℕ) (g : Environment) (one other : Listed) → one ≡ other → KeepsTo unit g other.scope → KeepsTo unit g one.scope
same_fields unit g one other e grows = same_table unit g other.scope one.scope (ap (λ (d : Listed). d.scope) e) grows

mutual
  pub type_keeps : (on : Ground) (g : Environment) (one : Denoter) (made : Denoted) → (judged on g one).holds made → KeepsTo on.unit g made.scope
  type_keeps on g (named one) made e = same_scope on.unit g made _ e.made (unchanged on.unit g _ refl)
  type_keeps on g (range low high) made e = range_keeps on.unit g (first_place low) e.left e.right made e.made
  type_keeps on g (enumeration place all) made e = enumeration_keeps on.unit g place all made e
  type_keeps on g (pointer one) made e = added_keeps on.unit g _ _ _ made e.made refl tt
  type_keeps on g string made e = same_scope on.unit g made _ e (unchanged on.unit g _ refl)
  type_keeps on g (sized place size) made e = string_keeps on.unit g place e.part made e.made
  type_keeps on g (procedure place groups) made e = added_keeps on.unit g _ _ _ made e.made refl tt
  type_keeps on g (function place groups result) made e = added_keeps on.unit g _ _ _ made e.made refl tt
  type_keeps on g (object place ancestor all methods) made e = absurd e
  type_keeps on g (array place all element) made e =
      let one = e.made in
      next on.unit g e.part.scope made.scope (indexes_keep on g [] all e.part e.holds)
      (next on.unit e.part.scope one.part.scope made.scope (type_keeps on e.part.scope element one.part one.holds) (arrays_keep on.unit place e.part.types one.part made one.made))
  type_keeps on g (record_of place all) made e =
      next on.unit g e.part.scope made.scope (fields_keep on g [] all e.part e.holds) (added_keeps on.unit e.part.scope _ _ _ made e.made refl tt)
  type_keeps on g (set place element) made e =
      next on.unit g e.part.scope made.scope (type_keeps on g element e.part e.holds) (added_keeps on.unit e.part.scope _ _ _ made e.made refl tt)

  indexes_keep : (on : Ground) (g : Environment) (before : List TypeId) (all : Denoters) (made : Indexes) → (indexes_judged on g before all).holds made → KeepsTo on.unit g made.scope
  indexes_keep on g before no_denoters made e = same_indexes on.unit g made _ e (unchanged on.unit g _ refl)
  indexes_keep on g before (and_denoter one rest) made e =
      next on.unit g e.part.scope made.scope (type_keeps on g one e.part e.holds) (indexes_keep on e.part.scope (e.part.ty ∷ before) rest made e.made)

  pub fields_keep : (on : Ground) (g : Environment) (before : List Field) (all : Fields) (made : Listed) → (fields_judged on g before all).holds made → KeepsTo on.unit g made.scope
  fields_keep on g before no_fields made e = same_fields on.unit g made _ e (unchanged on.unit g _ refl)
  fields_keep on g before (and_fields all one rest) made e =
      let names = e.made in
      next on.unit g e.part.scope made.scope (type_keeps on g one e.part e.holds) (fields_keep on e.part.scope names.part rest made names.made)

-- ---- parts of type declarations

object_keeps : (on : Ground) (next_one : Option ℕ) (name : List ℕ) (g : Environment) (place : Place) (ancestor : Option Identifier) (all : Fields) (methods : List written.Method) (made : Denoted)
    → (object_allowed on next_one name g place ancestor all methods).holds made → KeepsTo on.unit g made.scope
object_keeps on None name g place ancestor all methods made e = absurd e
object_keeps on (Some first) name g place ancestor all methods made e =
    let l = e.made in
    let m = l.made in
    next on.unit g l.part.scope made.scope (fields_keep on g [] all l.part l.holds)
    (added_keeps on.unit l.part.scope _ _ _ made m.made refl (methods_declared (inside l.part.scope name) (place_of l.part.scope.types.units on.unit) first l.part.fields methods m.part m.holds))

whole_keeps : (on : Ground) (next_one : Option ℕ) (name : List ℕ) (g : Environment) (one : TypeDenoter) (made : Denoted) → (whole on next_one name g one).holds made → KeepsTo on.unit g made.scope
whole_keeps on next_one name g (t.Object' here ancestor shape fields semicolon methods) made e = object_keeps on next_one name g here.place ancestor (view_field_row fields) methods.items made e
whole_keeps on next_one name g one made e = type_keeps on g (view_denoter one) made e

types_keep : (on : Ground) (next_one : Option ℕ) (g : Environment) (all : List TypeDeclaration) (h : Environment) → (types_declared on next_one g all).holds h → KeepsTo on.unit g h
types_keep on next_one g [] h e = same_table on.unit g g h e (unchanged on.unit g _ refl)
types_keep on next_one g (one ∷ rest) h e =
    let made = e.holds in
    next on.unit g e.part h
    (next on.unit g made.part.scope e.part (whole_keeps on next_one one.name.name g one.denoter made.part made.holds) (entered_keeps on.unit made.part.scope _ _ _ e.part made.made))
    (types_keep on (next_routine next_one one.denoter) e.part rest h e.made)

pub part_keeps : (unit : List ℕ) (next_one : Option ℕ) (g : Environment) (all : List TypeDeclaration) (h : Environment) → (type_part unit next_one g all).holds h → KeepsTo unit g h
unfolding type_part
part_keeps unit next_one g all h e = types_keep (ground unit (promises g all)) next_one g all h e
