-- Types and parts of type declarations only add types of the unit to the table.
use Rattle.std.proofs.Common.{◌≡◌, ◌∙◌, refl, false, ℕ, ◌+◌, List, [], ◌∷◌, Option, Some, None, ap}
use Rattle.std.specs.Prelude.{ℤ}
use Rattle.front_end.specs.type_layout.declared.definitions.TypeId.{TypeId}
use Rattle.front_end.specs.type_layout.declared.definitions.Field.{Field}
use Rattle.front_end.specs.type_layout.declared.definitions.TypeDef.{TypeDef}
use Rattle.front_end.specs.type_layout.declared.definitions.TypeDef.TheVariants.{SetOf}
use Rattle.front_end.specs.type_layout.declared.texts.Place.{Place}
use Rattle.front_end.specs.type_layout.Table.{place_of}
use Rattle.front_end.specs.syntax_tree.declared.identifier.Identifier.{Identifier}
use Rattle.front_end.specs.syntax_tree.declared.type_tree.parameter.Method as written
use Rattle.front_end.specs.syntax_tree.declared.type_tree.types.TypeDenoter.{TypeDenoter}
use Rattle.front_end.specs.syntax_tree.declared.type_tree.types.TypeDenoter.TheVariants as t
use Rattle.front_end.specs.syntax_tree.declared.source_tree.declaration.TypeDeclaration.{TypeDeclaration}
use Rattle.front_end.specs.scopes.declared.entries.Entry.{Entry}
use Rattle.front_end.specs.scopes.Environment.{Environment}
use Rattle.front_end.specs.typing_rules.declared.faults.Rule.{Rule}
use Rattle.front_end.specs.typing_rules.declared.faults.Rule.TheVariants as rules
use Rattle.front_end.specs.typing_rules.declared.sorts.Sort.{Sort}
use Rattle.front_end.specs.constant_checker.declared.constant_expressions.constants.Constant.{Constant}
use Rattle.front_end.specs.unit_interface.Misfits.{is_enumeration}
use Rattle.front_end.specs.declaration_checker.type_denoters.Trees.{Denoter, Denoters, Fields, named, range, enumeration, pointer, string, sized, procedure, function, object, array, record_of, set, no_denoters, and_denoter, no_fields, and_fields, view_denoter, view_field_row}
use Rattle.front_end.specs.declaration_checker.type_denoters.Additions.{Denoted, with_type_of, added, entered}
use Rattle.front_end.specs.typing_rules.Sorts.{sort_of_type}
use Rattle.front_end.specs.constant_checker.constant_expressions.Values.{number_of}
use Rattle.front_end.specs.syntax_tree.expression_tree.Places.{first_place}
use Rattle.front_end.specs.declaration_checker.type_denoters.Denoters.{set_base_of, ground, with_set, range_by, range_of, values_entered, enumeration_of, Ground, string_of, array_of, arrays_of, Listed, Indexes, judged, indexes_judged, fields_judged}
use Rattle.front_end.specs.declaration_checker.type_parts.Promised.{promises}
use Rattle.front_end.specs.declaration_checker.type_parts.Objects.{object_allowed}
use Rattle.front_end.specs.declaration_checker.type_parts.Parts.{whole, next_routine, types_declared, type_part}
use Rattle.interface_soundness.specs.interfaces.Declared.{IsOfOneUnit}
use Rattle.interface_soundness.proofs.interfaces.Growing.{GrowsTo, unchanged, same_table, next, one_more, two_more}

-- what is known with a type
same_scope : (unit : List ℕ) (g : Environment) (one other : Denoted) → one ≡ other → GrowsTo unit g other.scope → GrowsTo unit g one.scope
same_scope unit g one other e grows = same_table unit g other.scope one.scope (ap (λ (d : Denoted). d.scope) e) grows

added_is : (unit : List ℕ) (g : Environment) (place : Place) (asked : Rule) (one : TypeDef) (made : Denoted) → (added unit g place asked one).holds made → made.scope ≡ with_type_of unit g one
unfolding added
added_is unit g place asked one made h = ap (λ (d : Denoted). d.scope) h.made.made

added_whole : (unit : List ℕ) (g : Environment) (place : Place) (asked : Rule) (one : TypeDef) (made : Denoted) → (added unit g place asked one).holds made → IsOfOneUnit one
unfolding added
added_whole unit g place asked one made h = record { unit = place_of g.types.units unit; methods = h.holds.asked.methods }

added_grows : (unit : List ℕ) (g : Environment) (place : Place) (asked : Rule) (one : TypeDef) (made : Denoted) → (added unit g place asked one).holds made → is_enumeration (Some one) ≡ false
    → GrowsTo unit g made.scope
added_grows unit g place asked one made h other = same_table unit g (with_type_of unit g one) made.scope (added_is unit g place asked one made h) (one_more unit g one other (added_whole unit g place asked one made h))

pub entered_grows : (unit : List ℕ) (g : Environment) (place : Place) (name : List ℕ) (one : Entry) (h : Environment) → (entered g place name one).holds h → GrowsTo unit g h
unfolding entered
entered_grows unit g place name one h e = same_table unit g _ h e.made (unchanged unit g _ refl refl)

-- ---- types

module _ (unit : List ℕ) where
  -- a type, and the set behind it
  set_behind : (g : Environment) (first place : Place) (asked : Rule) (one : TypeDef) (base : TypeId) (made : Denoted) (h : Environment)
      → (added unit g first asked one).holds made → (with_set unit made.scope place base).holds h → GrowsTo unit g h
  set_behind g first place asked one base made h begun over =
      let to = added_is unit made.scope place rules.SetBase (SetOf base) over.part over.holds in
      let from = added_is unit g first asked one made begun in
      same_table unit g (with_type_of unit (with_type_of unit g one) (SetOf base)) h
      (over.made ∙ to ∙ ap (λ (k : Environment). with_type_of unit k (SetOf base)) from)
      (two_more unit g one (SetOf base) refl (added_whole unit g first asked one made begun) (added_whole unit made.scope place rules.SetBase (SetOf base) over.part over.holds))

  range_by_grows : (g : Environment) (place : Place) (s t : Sort) (low high : ℤ) (made : Denoted) → (range_by unit g place s t low high).holds made → GrowsTo unit g made.scope
  range_by_grows g place s t low high made e =
      let one = e.made in
      let over = one.made in
      same_scope unit g made _ over.made (set_behind g place place rules.Constant _ (set_base_of s) one.part over.part one.holds over.holds)

  range_grows : (g : Environment) (place : Place) (low high : Constant) (made : Denoted) → (range_of unit g place low high).holds made → GrowsTo unit g made.scope
  unfolding range_of
  range_grows g place low high made e = range_by_grows g place (sort_of_type g.types.types low.ty) (sort_of_type g.types.types high.ty) (number_of low.value) (number_of high.value) made e

  values_grow : (g : Environment) (ty : TypeId) (number : ℕ) (names : List Identifier) (h : Environment) → (values_entered g ty number names).holds h → GrowsTo unit g h
  values_grow g ty number [] h e = same_table unit g g h e (unchanged unit g _ refl refl)
  values_grow g ty number (one ∷ rest) h e = next unit g e.part h (entered_grows unit g _ _ _ e.part e.holds) (values_grow e.part ty (number + 1) rest h e.made)

  enumeration_grows : (g : Environment) (place : Place) (names : List Identifier) (made : Denoted) → (enumeration_of unit g place names).holds made → GrowsTo unit g made.scope
  unfolding enumeration_of
  enumeration_grows g place names made e =
      let one = e.made in
      let two = one.made in
      let three = two.made in
      next unit g two.part made.scope (set_behind g place place rules.Constant _ one.part.ty one.part two.part one.holds two.holds)
      (same_scope unit two.part made _ three.made (values_grow two.part one.part.ty 0 names three.part three.holds))

  string_grows : (g : Environment) (place : Place) (size : Constant) (made : Denoted) → (string_of unit g place size).holds made → GrowsTo unit g made.scope
  unfolding string_of
  string_grows g place size made e = added_grows unit g _ _ _ made e.made refl

  array_grows : (g : Environment) (place : Place) (index element : TypeId) (made : Denoted) → (array_of unit g place index element).holds made → GrowsTo unit g made.scope
  unfolding array_of
  array_grows g place index element made e = added_grows unit g _ _ _ made e.made refl

  arrays_grow : (place : Place) (types : List TypeId) (element made : Denoted) → (arrays_of unit place types element).holds made → GrowsTo unit element.scope made.scope
  arrays_grow place [] element made e = same_scope unit element.scope made element e (unchanged unit element.scope _ refl refl)
  arrays_grow place (index ∷ rest) element made e =
      next unit element.scope e.part.scope made.scope (array_grows element.scope place index element.ty e.part e.holds) (arrays_grow place rest e.part made e.made)

same_indexes : (unit : List ℕ) (g : Environment) (one other : Indexes) → one ≡ other → GrowsTo unit g other.scope → GrowsTo unit g one.scope
same_indexes unit g one other e grows = same_table unit g other.scope one.scope (ap (λ (d : Indexes). d.scope) e) grows

same_fields : (unit : List ℕ) (g : Environment) (one other : Listed) → one ≡ other → GrowsTo unit g other.scope → GrowsTo unit g one.scope
same_fields unit g one other e grows = same_table unit g other.scope one.scope (ap (λ (d : Listed). d.scope) e) grows

mutual
  pub type_grows : (on : Ground) (g : Environment) (one : Denoter) (made : Denoted) → (judged on g one).holds made → GrowsTo on.unit g made.scope
  type_grows on g (named one) made e = same_scope on.unit g made _ e.made (unchanged on.unit g _ refl refl)
  type_grows on g (range low high) made e = range_grows on.unit g (first_place low) e.left e.right made e.made
  type_grows on g (enumeration place all) made e = enumeration_grows on.unit g place all made e
  type_grows on g (pointer one) made e = added_grows on.unit g _ _ _ made e.made refl
  type_grows on g string made e = same_scope on.unit g made _ e (unchanged on.unit g _ refl refl)
  type_grows on g (sized place size) made e = string_grows on.unit g place e.part made e.made
  type_grows on g (procedure place groups) made e = added_grows on.unit g _ _ _ made e.made refl
  type_grows on g (function place groups result) made e = added_grows on.unit g _ _ _ made e.made refl
  type_grows on g (object place ancestor all methods) made e = absurd e
  type_grows on g (array place all element) made e =
      let one = e.made in
      next on.unit g e.part.scope made.scope (indexes_grow on g [] all e.part e.holds)
      (next on.unit e.part.scope one.part.scope made.scope (type_grows on e.part.scope element one.part one.holds) (arrays_grow on.unit place e.part.types one.part made one.made))
  type_grows on g (record_of place all) made e =
      next on.unit g e.part.scope made.scope (fields_grow on g [] all e.part e.holds) (added_grows on.unit e.part.scope _ _ _ made e.made refl)
  type_grows on g (set place element) made e =
      next on.unit g e.part.scope made.scope (type_grows on g element e.part e.holds) (added_grows on.unit e.part.scope _ _ _ made e.made refl)

  indexes_grow : (on : Ground) (g : Environment) (before : List TypeId) (all : Denoters) (made : Indexes) → (indexes_judged on g before all).holds made → GrowsTo on.unit g made.scope
  indexes_grow on g before no_denoters made e = same_indexes on.unit g made _ e (unchanged on.unit g _ refl refl)
  indexes_grow on g before (and_denoter one rest) made e =
      next on.unit g e.part.scope made.scope (type_grows on g one e.part e.holds) (indexes_grow on e.part.scope (e.part.ty ∷ before) rest made e.made)

  pub fields_grow : (on : Ground) (g : Environment) (before : List Field) (all : Fields) (made : Listed) → (fields_judged on g before all).holds made → GrowsTo on.unit g made.scope
  fields_grow on g before no_fields made e = same_fields on.unit g made _ e (unchanged on.unit g _ refl refl)
  fields_grow on g before (and_fields all one rest) made e =
      let names = e.made in
      next on.unit g e.part.scope made.scope (type_grows on g one e.part e.holds) (fields_grow on e.part.scope names.part rest made names.made)

-- ---- parts of type declarations

object_grows : (on : Ground) (next_one : Option ℕ) (name : List ℕ) (g : Environment) (place : Place) (ancestor : Option Identifier) (all : Fields) (methods : List written.Method) (made : Denoted)
    → (object_allowed on next_one name g place ancestor all methods).holds made → GrowsTo on.unit g made.scope
object_grows on None name g place ancestor all methods made e = absurd e
object_grows on (Some first) name g place ancestor all methods made e =
    let l = e.made in
    next on.unit g l.part.scope made.scope (fields_grow on g [] all l.part l.holds) (added_grows on.unit l.part.scope _ _ _ made l.made.made refl)

whole_grows : (on : Ground) (next_one : Option ℕ) (name : List ℕ) (g : Environment) (one : TypeDenoter) (made : Denoted) → (whole on next_one name g one).holds made → GrowsTo on.unit g made.scope
whole_grows on next_one name g (t.Object' here ancestor shape fields semicolon methods) made e = object_grows on next_one name g here.place ancestor (view_field_row fields) methods.items made e
whole_grows on next_one name g one made e = type_grows on g (view_denoter one) made e

types_grow : (on : Ground) (next_one : Option ℕ) (g : Environment) (all : List TypeDeclaration) (h : Environment) → (types_declared on next_one g all).holds h → GrowsTo on.unit g h
types_grow on next_one g [] h e = same_table on.unit g g h e (unchanged on.unit g _ refl refl)
types_grow on next_one g (one ∷ rest) h e =
    let made = e.holds in
    next on.unit g e.part h
    (next on.unit g made.part.scope e.part (whole_grows on next_one one.name.name g one.denoter made.part made.holds) (entered_grows on.unit made.part.scope _ _ _ e.part made.made))
    (types_grow on (next_routine next_one one.denoter) e.part rest h e.made)

pub part_grows : (unit : List ℕ) (next_one : Option ℕ) (g : Environment) (all : List TypeDeclaration) (h : Environment) → (type_part unit next_one g all).holds h → GrowsTo unit g h
unfolding type_part
part_grows unit next_one g all h e = types_grow (ground unit (promises g all)) next_one g all h e
