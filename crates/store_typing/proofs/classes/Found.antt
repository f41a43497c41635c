-- A class is found in the table of the unit that declares it.
use Rattle.std.proofs.Common.{◌≡◌, ℕ, ◌<◌, Bool, true, false, List, length, get_or, cond, Some, None, refl, sym, ap, subst, ◌∙◌, arith}
use Rattle.std.specs.Prelude.{Option, slice_get, position, option_and_then, nat_lt, ◌==◌, ◌&&◌}
use Rattle.std.specs.List.{position_or_len}
use Rattle.std.specs.Option.{option_map}
use Rattle.std.proofs.lemmas.Bool.{ltb-false}
use Rattle.std.proofs.lemmas.Bool.Decides.{nat_tests}
use Rattle.std.proofs.lemmas.List.Sums.{fails_before_first}
use Rattle.std.proofs.lemmas.List.Quantifiers.{position-Some}
use Rattle.std.proofs.lemmas.Option.{same_Some, option_and_then_some, slice_get_within, get_or_from_slice_get}
use Rattle.tp_meaning.specs.type_layout.Words.{same_bytes}
use Rattle.tp_meaning.specs.type_layout.Table.{Table}
use Rattle.tp_meaning.specs.typed_tree.declared.units.Unit.{Unit as TypedUnit}
use Rattle.tp_meaning.specs.typed_tree.declared.units.Program.{Program}
use Rattle.tp_meaning.proofs.object_vmt_proofs.SlotLaws.{same_bytes_refl}
use Rattle.tp_meaning.proofs.object_vmt_proofs.Lines.{same_bytes_is}
use Rattle.tp_meaning.specs.Trees.{Key}
use Rattle.tp_meaning.specs.Programs.{Sort, class_by, class_key, is_name, is_origin, sort_by, class_sort, unit_named}
use Rattle.store_typing.specs.types.Agreement.{IsKnown, AreConsistent}
use Rattle.store_typing.proofs.types.Agreed.{within_get}
use Rattle.store_typing.specs.standard.Laws.{HasClasses}
use Rattle.store_typing.specs.classes.Laws.{IsDeclared, HasDeclarers}

-- ---- the first that passes

contrary : (b : Bool) → b ≡ true → b ≡ false → ⊥
contrary b holds fails = cc

none_found : {A : Type 0} (p : A → Bool) (xs : List A) (k : ℕ) (x : A) → position p xs ≡ None → p x ≡ true → slice_get xs k ≡ Some x → ⊥
none_found {A} p xs k x none holds at = by (nat_lt (position_or_len p xs) (length xs)) refl none where
  by : (b : Bool) → nat_lt (position_or_len p xs) (length xs) ≡ b → (let o : Option ℕ = cond b (Some (position_or_len p xs)) None in o) ≡ None → ⊥
  by true found none = cc
  by false past none =
      let within = slice_get_within xs k x at in
      let below : k < position_or_len p xs = omega (arith, within, ltb-false (position_or_len p xs) (length xs) past) in
      let fails : p (get_or xs k x) ≡ false = fails_before_first p xs k x below in
      contrary (p x) holds (ap p (sym (get_or_from_slice_get xs k x x at)) ∙ fails)

-- an element that passes, at the place that is found
record IsFound {A : Type 0} (p : A → Bool) (xs : List A) : Type 0 where
  place : ℕ
  found : position p xs ≡ Some place
  one : A
  at : slice_get xs place ≡ Some one
  passes : p one ≡ true

found_by : {A : Type 0} (p : A → Bool) (xs : List A) (k : ℕ) (x : A) → slice_get xs k ≡ Some x → p x ≡ true → (o : Option ℕ) → position p xs ≡ o → IsFound p xs
found_by p xs k x at holds None e = absurd (none_found p xs k x e holds at)
found_by p xs k x at holds (Some place) e =
    let is = position-Some p xs place x e in
    let one = within_get xs place is.0 in
    record { place = place; found = e; one = one.0; at = one.1; passes = ap p (sym (get_or_from_slice_get xs place one.0 x one.1)) ∙ is.1 }

-- ---- origins of a class

both : (a b : Bool) → a ≡ true → b ≡ true → (a && b) ≡ true
both true b h k = k
both false b h k = absurd cc

both_left : (a b : Bool) → (a && b) ≡ true → a ≡ true
both_left true b e = refl
both_left false b e = absurd cc

both_right : (a b : Bool) → (a && b) ≡ true → b ≡ true
both_right true b e = e
both_right false b e = absurd cc

same_number : (n : ℕ) → (n == n) ≡ true
same_number n = grind (arith, nat_tests)

is_number : (m n : ℕ) → (m == n) ≡ true → m ≡ n
is_number m n e = grind (arith, nat_tests)

abbrev key_with : ℕ → List ℕ → Key
key_with number name = record { unit = name; number = number }

-- the origin of what has a key is found by the key
origin_by : (number : ℕ) (class : Key) (o : Option (List ℕ)) → option_map (key_with number) o ≡ Some class → (number == class.number && is_name class.unit o) ≡ true
origin_by number class None e = absurd cc
origin_by number class (Some name) e =
    subst (λ (c : Key). (number == c.number && same_bytes c.unit name) ≡ true) (same_Some (key_with number name) class e) (both (number == number) (same_bytes name name) (same_number number) (same_bytes_refl name))

-- and what is found by it has it
key_by : (number : ℕ) (class : Key) (o : Option (List ℕ)) → (number == class.number && is_name class.unit o) ≡ true → option_map (key_with number) o ≡ Some class
key_by number class None e = absurd (contrary false (both_right (number == class.number) false e) refl)
key_by number class (Some name) e =
    let unit : class.unit ≡ name = same_bytes_is class.unit name (both_right (number == class.number) (same_bytes class.unit name) e) in
    let same : number ≡ class.number = is_number number class.number (both_left (number == class.number) (same_bytes class.unit name) e) in
    ap (λ (n : List ℕ). Some (key_with number n)) (sym unit) ∙ ap (λ k. Some (key_with k class.unit)) same

module _ (program : Program) (agreed : AreConsistent program) where
  -- what the table of the class's unit has
  class_found : (class : Key) → IsDeclared program class → (found : Sort) × (class_sort program class ≡ Some found) × IsKnown program found × (class_key found ≡ Some class)
  class_found class is =
      let unit : TypedUnit = is.unit in
      let table : Table = unit.types in
      let law = agreed.lawful unit is.listed in
      option_and_then_some (class_by table) (slice_get table.origins is.ty.0) class is.is (λ origin at made.
      let one = found_by (is_origin table class) table.origins is.ty.0 origin at (origin_by origin.number class (slice_get table.units origin.unit) made) (position (is_origin table class) table.origins) refl in
      let found : Sort = record { table = table; ty = record { 0 = one.place } } in
      let there = within_get table.types one.place (omega (arith, slice_get_within table.origins one.place one.one one.at, law.well_formed.origins)) in
      let named : unit_named program class.unit ≡ Some unit = ap (unit_named program) is.named ∙ is.listed in (
        found,
        ap (option_and_then (sort_by class)) named ∙ ap (option_map (λ (place : ℕ). record { table = table; ty = record { 0 = place } })) one.found,
        record { unit = unit; listed = is.listed; table = refl; one = there.0; is = there.1 },
        ap (option_and_then (class_by table)) one.at ∙ key_by one.one.number class (slice_get table.units one.one.unit) one.passes,
      ))

  -- the classes of object types are found
  pub has_classes : HasDeclarers program → HasClasses program
  has_classes has = record { classes = λ sort class known object is. class_found class (has.declarers sort class known object is) }
