-- Where the plain choice puts the data of the runtime.
use Rattle.std.proofs.Common.{◌≡◌, ℕ, zero, suc, ◌+◌, ◌≤◌, inl, inr, List, [], ◌∷◌, ◌++◌, Option, Some, refl, sym, ap, subst, ◌∙◌, arith}
use Rattle.std.specs.Prelude.{slice_get}
use Rattle.std.proofs.lemmas.Bool.{leb-true}
use Rattle.flat_code.specs.Program.{Name, Datum, UnitCode, text_unit, strings_unit, overlay_unit}
use Rattle.flat_code.specs.Plain.{even, data_size, unit_size, units_size, unit_from, datum_from, datum_of}
use Rattle.rt_text.specs.Unit.{text_code}
use Rattle.rt_strings.specs.Unit.{strings_code}
use Rattle.heap_runtime.specs.Unit.{heap_code}
use Rattle.runtime_units.specs.Units.{runtime_codes}
use Rattle.runtime_units.specs.Bounds.{StandFirst}

pub small : units_size runtime_codes ≤ 1024
small = leb-true (units_size runtime_codes) 1024 refl

-- each datum ends among those of its unit
within : (start : ℕ) (list : List Datum) (n o : ℕ) (d : Datum) → datum_from start list n ≡ Some o → slice_get list n ≡ Some d → o + d.size ≤ start + data_size list
within start [] n o d p q = absurd cc
within start (x ∷ list) zero o d p q =
    let same : start ≡ o = cc in
    let is : x ≡ d = cc in
    let size = ap (λ (y : Datum). y.size) is in
    omega (arith, same, size)
within start (x ∷ list) (suc n) o d p q = let rest = within (start + even x.size) list n o d p q in omega (arith, rest)

module _ (units : List UnitCode) where
  abbrev all : List UnitCode
  all = runtime_codes ++ units

  -- in a unit of which the place is known
  in-unit : (name : Name) (number start offset : ℕ) (code unit : UnitCode) (datum : Datum) → unit_from 0 all name ≡ Some code → datum_of 0 0 all name number ≡ datum_from start code.globals number → start + data_size code.globals ≤ 1024 →
      unit_from 0 all name ≡ Some unit → slice_get unit.globals number ≡ Some datum → datum_of 0 0 all name number ≡ Some offset → offset + datum.size ≤ 1024
  in-unit name number start offset code unit datum there placed fits found holds at =
      let same : code ≡ unit = some-same code unit (sym there ∙ found) in
      let holds' = subst (λ (u : UnitCode). slice_get u.globals number ≡ Some datum) (sym same) holds in
      let ends = within start code.globals number offset datum (sym placed ∙ at) holds' in
      omega (arith, ends, fits)
    where
      some-same : (a b : UnitCode) → (let o : Option UnitCode = Some a in o ≡ Some b) → a ≡ b
      some-same a b e = cc

  pub first : StandFirst units
  first key unit datum offset (inl is) found holds at =
      in-unit text_unit key.number 0 offset text_code unit datum refl refl (leb-true (0 + data_size text_code.globals) 1024 refl) (subst (λ (n : Name). unit_from 0 all n ≡ Some unit) is found) holds (subst (λ (n : Name). datum_of 0 0 all n key.number ≡ Some offset) is at)
  first key unit datum offset (inr (inl is)) found holds at =
      let start = 0 + unit_size text_code in
      in-unit strings_unit key.number start offset strings_code unit datum refl refl (leb-true (start + data_size strings_code.globals) 1024 refl) (subst (λ (n : Name). unit_from 0 all n ≡ Some unit) is found) holds (subst (λ (n : Name). datum_of 0 0 all n key.number ≡ Some offset) is at)
  first key unit datum offset (inr (inr is)) found holds at =
      let start = 0 + unit_size text_code + unit_size strings_code in
      in-unit overlay_unit key.number start offset heap_code unit datum refl refl (leb-true (start + data_size heap_code.globals) 1024 refl) (subst (λ (n : Name). unit_from 0 all n ≡ Some unit) is found) holds (subst (λ (n : Name). datum_of 0 0 all n key.number ≡ Some offset) is at)
