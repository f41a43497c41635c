-- Types that are written, but for object types, have no methods; a table only gets further types and units.
use Rattle.std.proofs.Common.{◌≡◌, ℕ, ◌+◌, List, [], ◌∷◌, ◌++◌, length, get_or, Option, Some, None, refl, sym, subst, ap, ◌∙◌, append_assoc, append-nil}
use Rattle.std.specs.Prelude.{slice_get, position}
use Rattle.std.specs.Cmp.Lexicographic.{bytes_decides}
use Rattle.std.proofs.lemmas.Option.{slice_get-get_or}
use Rattle.std.proofs.lemmas.List.Quantifiers.{position-Some}
use Rattle.declarations_well_formed.specs.type_layout.declared.definitions.TypeId.{TypeId}
use Rattle.declarations_well_formed.specs.type_layout.declared.definitions.Field.{Field}
use Rattle.declarations_well_formed.specs.type_layout.declared.definitions.TypeDef.{TypeDef}
use Rattle.declarations_well_formed.specs.type_layout.declared.texts.Place.{Place}
use Rattle.declarations_well_formed.specs.type_layout.Words.{same_bytes}
use Rattle.declarations_well_formed.specs.type_layout.Table.{place_of, with_unit}
use Rattle.declarations_well_formed.specs.syntax_tree.declared.identifier.Identifier.{Identifier}
use Rattle.declarations_well_formed.specs.scopes.Environment.{Environment}
use Rattle.declarations_well_formed.specs.call_rules.method_rules.Slots.{methods_of}
use Rattle.declarations_well_formed.specs.typing_rules.declared.faults.Rule.{Rule}
use Rattle.declarations_well_formed.specs.constant_checker.declared.constant_expressions.constants.Constant.{Constant}
use Rattle.declarations_well_formed.specs.declaration_checker.type_denoters.Trees as tree
use Rattle.declarations_well_formed.specs.declaration_checker.type_denoters.Trees.{Denoter, Denoters, Fields, no_denoters, and_denoter, no_fields, and_fields}
use Rattle.declarations_well_formed.specs.declaration_checker.type_denoters.Additions.{Denoted, with_type_of, added, entered}
use Rattle.declarations_well_formed.specs.declaration_checker.type_denoters.Denoters.{Ground, Listed, Indexes, with_set, followed, range_of, values_entered, enumeration_of, string_of, array_of, arrays_of, judged, indexes_judged, fields_judged}
use Rattle.declarations_well_formed.proofs.tables_closed_proofs.types.Reading.{is_added, is_entered}

-- ---- the units of a table

-- a unit stands where it is placed, behind those that there were
pub record IsPlacedIn (units : List (List ℕ)) (unit : List ℕ) : Type 0 where
  pub more : List (List ℕ)
  pub grows : with_unit units unit ≡ units ++ more
  pub there : slice_get (with_unit units unit) (place_of units unit) ≡ Some unit

push_at : (units : List (List ℕ)) (unit : List ℕ) → slice_get (units ++ unit ∷ []) (length units) ≡ Some unit
push_at [] unit = refl
push_at (first ∷ units) unit = push_at units unit

pub found_at : (units : List (List ℕ)) (unit : List ℕ) (i : ℕ) → position (same_bytes unit) units ≡ Some i → slice_get units i ≡ Some unit
found_at units unit i e =
    let it = position-Some (same_bytes unit) units i [] e in
    let same : unit ≡ get_or units i [] = (bytes_decides unit (get_or units i [])).0 it.1 in
    slice_get-get_or units i [] it.0 ∙ ap (λ (x : List ℕ). Some x) (sym same)

pub placed : (units : List (List ℕ)) (unit : List ℕ) → IsPlacedIn units unit
placed units unit = by (position (same_bytes unit) units) refl
  where
    by : (o : Option ℕ) → position (same_bytes unit) units ≡ o → IsPlacedIn units unit
    by None e = record {
      more = unit ∷ [];
      grows = rw e refl;
      there = rw e (push_at units unit);
    }
    by (Some i) e = record {
      more = [];
      grows = rw e (sym (append-nil units));
      there = rw e (found_at units unit i e);
    }

-- ---- types without methods

abbrev pub IsPlain : TypeDef → Type 0
IsPlain one = methods_of (Some one) ≡ []

abbrev pub ArePlain : List TypeDef → Type 0
ArePlain [] = Unit {0}
ArePlain (one ∷ rest) = IsPlain one × ArePlain rest

plain_on : (xs ys : List TypeDef) → ArePlain xs → ArePlain ys → ArePlain (xs ++ ys)
plain_on [] ys h k = k
plain_on (one ∷ xs) ys h k = (h.0, plain_on xs ys h.1 k)

-- further types without methods, and further units
pub record AddsPlain (g h : Environment) : Type 0 where
  pub types : List TypeDef
  pub has_types : h.types.types ≡ g.types.types ++ types
  pub plain : ArePlain types
  pub units : List (List ℕ)
  pub has_units : h.types.units ≡ g.types.units ++ units

pub none_added : (g h : Environment) → h.types ≡ g.types → AddsPlain g h
none_added g h e = record {
  types = [];
  has_types = ap (λ t. t.types) e ∙ sym (append-nil g.types.types);
  plain = tt;
  units = [];
  has_units = ap (λ t. t.units) e ∙ sym (append-nil g.types.units);
}

pub plain_then : (g h k : Environment) → AddsPlain g h → AddsPlain h k → AddsPlain g k
plain_then g h k a b = record {
  types = a.types ++ b.types;
  has_types = b.has_types ∙ ap (λ (l : List TypeDef). l ++ b.types) a.has_types ∙ append_assoc g.types.types a.types b.types;
  plain = plain_on a.types b.types a.plain b.plain;
  units = a.units ++ b.units;
  has_units = b.has_units ∙ ap (λ (l : List (List ℕ)). l ++ b.units) a.has_units ∙ append_assoc g.types.units a.units b.units;
}

pub plain_at : (g h k : Environment) → k ≡ h → AddsPlain g h → AddsPlain g k
plain_at g h k e a = subst (λ (x : Environment). AddsPlain g x) (sym e) a

pub added_plain : (unit : List ℕ) (g : Environment) (place : Place) (asked : Rule) (one : TypeDef) (made : Denoted) → IsPlain one → (added unit g place asked one).holds made → AddsPlain g made.scope
added_plain unit g place asked one made plain h =
    let is = (is_added unit g place asked one made h).is in
    let p = placed g.types.units unit in
    plain_at g (with_type_of unit g one) made.scope (ap (λ (d : Denoted). d.scope) is) (record {
      types = one ∷ [];
      has_types = refl;
      plain = (plain, tt);
      units = p.more;
      has_units = p.grows;
    })

pub entered_plain : (g : Environment) (place : Place) (name : List ℕ) (one : _) (h : Environment) → (entered g place name one).holds h → AddsPlain g h
entered_plain g place name one h e = plain_at g _ h (is_entered g place name one h e).is (none_added g _ refl)

-- ---- types that are written

module _ (unit : List ℕ) where
  set_plain : (g h : Environment) (place : Place) (base : TypeId) → (with_set unit g place base).holds h → AddsPlain g h
  set_plain g h place base k = plain_at g k.part.scope h k.made (added_plain unit g place _ _ k.part refl k.holds)

  followed_plain : (place : Place) (base : TypeId) (one made : Denoted) → (followed unit place base one).holds made → AddsPlain one.scope made.scope
  followed_plain place base one made k = plain_at one.scope k.part made.scope (ap (λ (d : Denoted). d.scope) k.made) (set_plain one.scope k.part place base k.holds)

  range_plain : (g : Environment) (place : Place) (low high : Constant) (made : Denoted) → (range_of unit g place low high).holds made → AddsPlain g made.scope
  unfolding range_of
  range_plain g place low high made k =
      let ordinal = k.made in
      plain_then g ordinal.part.scope made.scope (added_plain unit g place _ _ ordinal.part refl ordinal.holds) (followed_plain place _ ordinal.part made ordinal.made)

  values_plain : (g h : Environment) (ty : TypeId) (number : ℕ) (names : List Identifier) → (values_entered g ty number names).holds h → AddsPlain g h
  values_plain g h ty number [] k = plain_at g g h k (none_added g g refl)
  values_plain g h ty number (one ∷ rest) k =
      plain_then g k.part h (entered_plain g _ _ _ k.part k.holds) (values_plain k.part h ty (number + 1) rest k.made)

  enumeration_plain : (g : Environment) (place : Place) (names : List Identifier) (made : Denoted) → (enumeration_of unit g place names).holds made → AddsPlain g made.scope
  unfolding enumeration_of
  enumeration_plain g place names made k =
      let ordinal = k.made in
      let over = ordinal.made in
      let values = over.made in
      let whole = plain_then g over.part values.part
      (plain_then g ordinal.part.scope over.part (added_plain unit g place _ _ ordinal.part refl ordinal.holds) (set_plain ordinal.part.scope over.part place ordinal.part.ty over.holds))
      (values_plain over.part values.part ordinal.part.ty 0 names values.holds) in
      plain_at g values.part made.scope (ap (λ (d : Denoted). d.scope) values.made) whole

  string_plain : (g : Environment) (place : Place) (size : Constant) (made : Denoted) → (string_of unit g place size).holds made → AddsPlain g made.scope
  unfolding string_of
  string_plain g place size made k = added_plain unit g place _ _ made refl k.made

  array_plain : (g : Environment) (place : Place) (index element : TypeId) (made : Denoted) → (array_of unit g place index element).holds made → AddsPlain g made.scope
  unfolding array_of
  array_plain g place index element made k = added_plain unit g place _ _ made refl k.made

  arrays_plain : (place : Place) (all : List TypeId) (element made : Denoted) → (arrays_of unit place all element).holds made → AddsPlain element.scope made.scope
  arrays_plain place [] element made k = plain_at element.scope element.scope made.scope (ap (λ (d : Denoted). d.scope) k) (none_added element.scope element.scope refl)
  arrays_plain place (index ∷ rest) element made k =
      plain_then element.scope k.part.scope made.scope (array_plain element.scope place index element.ty k.part k.holds) (arrays_plain place rest k.part made k.made)

mutual
  pub type_plain : (d : Denoter) (on : Ground) (g : Environment) (made : Denoted) → (judged on g d).holds made → AddsPlain g made.scope
  type_plain (tree.named one) on g made k = plain_at g g made.scope (ap (λ (d : Denoted). d.scope) k.made) (none_added g g refl)
  type_plain (tree.range low high) on g made k = range_plain on.unit g _ k.left k.right made k.made
  type_plain (tree.enumeration place all) on g made k = enumeration_plain on.unit g place all made k
  type_plain (tree.pointer one) on g made k = added_plain on.unit g one.position.place _ _ made refl k.made
  type_plain tree.string on g made k = plain_at g g made.scope (ap (λ (d : Denoted). d.scope) k) (none_added g g refl)
  type_plain (tree.sized place size) on g made k = string_plain on.unit g place k.part made k.made
  type_plain (tree.procedure place groups) on g made k = added_plain on.unit g place _ _ made refl k.made
  type_plain (tree.function place groups result) on g made k = added_plain on.unit g place _ _ made refl k.made
  type_plain (tree.object place ancestor all methods) on g made k = absurd k
  type_plain (tree.array place all element) on g made k =
      let inner = k.made in
      plain_then g inner.part.scope made.scope
      (plain_then g k.part.scope inner.part.scope (indexes_plain all on g [] k.part k.holds) (type_plain element on k.part.scope inner.part inner.holds))
      (arrays_plain on.unit place k.part.types inner.part made inner.made)
  type_plain (tree.record_of place all) on g made k =
      plain_then g k.part.scope made.scope (fields_plain all on g [] k.part k.holds) (added_plain on.unit k.part.scope place _ _ made refl k.made)
  type_plain (tree.set place element) on g made k =
      plain_then g k.part.scope made.scope (type_plain element on g k.part k.holds) (added_plain on.unit k.part.scope place _ _ made refl k.made)

  indexes_plain : (all : Denoters) (on : Ground) (g : Environment) (before : List TypeId) (i : Indexes) → (indexes_judged on g before all).holds i → AddsPlain g i.scope
  indexes_plain no_denoters on g before i k = plain_at g g i.scope (ap (λ (x : Indexes). x.scope) k) (none_added g g refl)
  indexes_plain (and_denoter one rest) on g before i k =
      plain_then g k.part.scope i.scope (type_plain one on g k.part k.holds) (indexes_plain rest on k.part.scope (k.part.ty ∷ before) i k.made)

  pub fields_plain : (all : Fields) (on : Ground) (g : Environment) (before : List Field) (l : Listed) → (fields_judged on g before all).holds l → AddsPlain g l.scope
  fields_plain no_fields on g before l k = plain_at g g l.scope (ap (λ (x : Listed). x.scope) k) (none_added g g refl)
  fields_plain (and_fields names one rest) on g before l k =
      let inner = k.made in
      plain_then g k.part.scope l.scope (type_plain one on g k.part k.holds) (fields_plain rest on k.part.scope inner.part l inner.made)
