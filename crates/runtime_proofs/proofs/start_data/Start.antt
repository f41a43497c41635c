-- Data stand at the start: each is laid, and what is laid later lies apart or is the same.
use Rattle.std.proofs.Common.{◌≡◌, ◌≢◌, ℕ, zero, suc, ◌+◌, ◌-◌, ◌*◌, ◌≤◌, ◌<◌, ◌⊎◌, inl, inr, List, [], ◌∷◌, length, get_or, Option, Some, None, refl, sym, ap, subst, ◌∙◌, arith, ⊎_elim, length-append}
use Rattle.std.specs.Prelude.{replicate, slice_get}
use Rattle.std.specs.Option.{option_and_then}
use Rattle.std.proofs.lemmas.Bool.{cases_eq, cases_lt}
use Rattle.std.proofs.lemmas.List.{length-replicate, get_or-append_right, get_or_append_left}
use Rattle.flat_code.specs.declared.memory.Place.{Place}
use Rattle.flat_code.specs.declared.memory.Cell.TheVariants.{Known, Outside}
use Rattle.flat_code.specs.Memory.{Cells, address_of, region, laid, word_bytes}
use Rattle.flat_code.specs.Program.{Name, Key, Datum, Vmt, UnitCode, FlatProgram, Choice, named, heap_segment_key, heap_bytes_key, ovr_name_key}
use Rattle.flat_code.specs.Meaning.{number_bytes, filled, laid_at, with_data, pointer_bytes, slot_bytes, slots_bytes, vmt_bytes, with_vmts, with_unit, with_units}
use Rattle.flat_code.specs.Legal.{Mention, ToRoutine, ToDatum, ToVmt, TakesData, IsApart, IsLegal}
use Rattle.runtime_proofs.specs.strings_in_memory.Strings.{HasBytes, place}
use Rattle.runtime_proofs.proofs.strings_in_memory.Cells.{bytes-kept, laid-other, laid-has}
use Rattle.runtime_proofs.specs.start_data.Start.{IsDatum, FitsRuntime, IsOther, StandsFirst}

-- ---- one datum

plain : (segment o i : ℕ) → o + i < 65536 → 16 * segment + (o + i) < 1048576 → address_of (place segment o) (0 + i) ≡ 16 * segment + o + i
plain segment o i p q = omega (arith, p, q)

-- bytes stay where others are laid apart from them
laid-stays : (m : Cells) (segment limit a b : ℕ) (xs ys : List ℕ) → limit ≤ 65520 → 16 * segment + limit ≤ 1048576 → a + length xs ≤ limit → b + length ys ≤ limit → IsApart a (length xs) b (length ys) → HasBytes m (place segment a) 0 xs → HasBytes (laid m (place segment b) 0 ys) (place segment a) 0 xs
laid-stays m segment limit a b xs ys small end p q apart has =
    bytes-kept m (laid m (place segment b) 0 ys) (place segment a) 0 xs
    (λ k h. laid-other m (place segment b) 0 ys (address_of (place segment a) (0 + k)) (λ j g e.
    let x : address_of (place segment a) (0 + k) ≡ 16 * segment + a + k = plain segment a k (omega (arith, small, p, h)) (omega (arith, end, p, h)) in
    let y : address_of (place segment b) (0 + j) ≡ 16 * segment + b + j = plain segment b j (omega (arith, small, q, g)) (omega (arith, end, q, g)) in
    let same : 16 * segment + a + k ≡ 16 * segment + b + j = sym x ∙ e ∙ y in
    ⊎_elim (λ (z : a + length xs ≤ b). omega (arith, z, h, same)) (λ (z : b + length ys ≤ a). omega (arith, z, g, same)) apart)) has

filled-length : (size : ℕ) (first : List ℕ) → length first ≤ size → length (filled size first) ≡ size
filled-length size first h = length-append first (replicate (size - length first) 0) ∙ ap (λ n. length first + n) (length-replicate {A = ℕ} (size - length first) 0) ∙ omega (arith, h)

filled-small : (size : ℕ) (first : List ℕ) → ((k : ℕ) → k < length first → get_or first k 0 < 256) → (k : ℕ) → get_or (filled size first) k 0 < 256
filled-small size first small k = ⊎_elim (λ (l : k < length first). subst (λ n. n < 256) (sym (get_or_append_left first (replicate (size - length first) 0) 0 k l)) (small k l)) (λ (l : length first ≤ k). subst (λ n. n < 256) (sym (get_or-append_right first (replicate (size - length first) 0) (length first) k 0 refl l)) (zeros (size - length first) (k - length first))) (cases_lt k (length first))
  where
    zeros : (n i : ℕ) → get_or (replicate n 0) i 0 < 256
    zeros zero i = omega arith
    zeros (suc n) zero = omega arith
    zeros (suc n) (suc i) = zeros n i

same-name : (a b : List ℕ) → (a ≡ b) ⊎ (a ≢ b)
same-name [] [] = inl refl
same-name [] (y ∷ b) = inr (λ e. absurd cc)
same-name (x ∷ a) [] = inr (λ e. absurd cc)
same-name (x ∷ a) (y ∷ b) = by (cases_eq x y) (same-name a b)
  where
    by : (x ≡ y) ⊎ (x ≢ y) → (a ≡ b) ⊎ (a ≢ b) → (x ∷ a ≡ y ∷ b) ⊎ (x ∷ a ≢ y ∷ b)
    by (inl e) (inl f) = inl (ap (λ z. z ∷ a) e ∙ ap (λ z. y ∷ z) f)
    by (inl e) (inr f) = inr (λ g. f (let h : a ≡ b = cc in h))
    by (inr e) f = inr (λ g. e (let h : x ≡ y = cc in h))

module _ (program : FlatProgram) (choice : Choice) (R : Mention → Type 0) (legal : IsLegal program choice R) (firsts : (key : Key) (unit : UnitCode) (datum : Datum) → program.unit key.unit ≡ Some unit → slice_get unit.globals key.number ≡ Some datum → length datum.first ≤ datum.size)
    (key : Key) (unit : UnitCode) (datum : Datum) (offset : ℕ) (is : IsDatum program choice key unit datum offset) where
  abbrev bytes : List ℕ
  bytes = filled datum.size datum.first

  whole : length bytes ≡ datum.size
  whole = filled-length datum.size datum.first is.fits

  takes : TakesData program choice (ToDatum key) offset datum.size
  takes = (unit, datum, is.unit_is, is.datum_is, is.placed, refl)

  inside : offset + datum.size ≤ legal.data_bytes
  inside = legal.inside (ToDatum key) offset datum.size takes

  abbrev Stands : Cells → Type 0
  Stands m = HasBytes m (place choice.data_segment offset) 0 (filled datum.size datum.first)

  -- what is laid of something else leaves them
  other-stays : (mention : Mention) → ToDatum key ≢ mention → (m : Cells) (b size : ℕ) (ys : List ℕ) → TakesData program choice mention b size → length ys ≤ size → Stands m → Stands (laid m (place choice.data_segment b) 0 ys)
  other-stays mention ne m b size ys taken short has =
      let small = legal.data_small in
      let end = legal.data_end in
      let lies = legal.inside mention b size taken in
      laid-stays m choice.data_segment legal.data_bytes offset b bytes ys small end (omega (arith, whole, inside)) (omega (arith, short, lies))
      (⊎_elim (λ (z : offset + datum.size ≤ b). inl (omega (arith, z, whole))) (λ (z : b + size ≤ offset). inr (omega (arith, z, short))) (legal.apart (ToDatum key) mention offset datum.size b size ne takes taken)) has

  self-stands : (m : Cells) → Stands (laid m (place choice.data_segment offset) 0 bytes)
  self-stands m = let small = legal.data_small in laid-has m choice.data_segment offset 0 bytes (omega (arith, whole, inside)) (λ k h. filled-small datum.size datum.first is.small k)

  abbrev key-of : Mention → Key
  key-of (ToRoutine k) = k
  key-of (ToDatum k) = k
  key-of (ToVmt k) = k

  -- one datum of any unit
  datum-stays : (name : Name) (number : ℕ) (u : UnitCode) (d : Datum) → program.unit name ≡ Some u → slice_get u.globals number ≡ Some d → (m : Cells) → Stands m → Stands (laid_at choice (choice.datum (record { unit = name; number = number })) (filled d.size d.first) m)
  datum-stays name number u d unit_is datum_is m has = by (choice.datum (record { unit = name; number = number })) refl
    where
      here : Key
      here = record { unit = name; number = number }

      same-key : name ≡ key.unit → number ≡ key.number → here ≡ key
      same-key e f = ap (λ (n : Name). let k : Key = record { unit = n; number = number } in k) e ∙ ap (λ (n : ℕ). let k : Key = record { unit = key.unit; number = n } in k) f

      by : (o : Option ℕ) → choice.datum here ≡ o → Stands (laid_at choice o (filled d.size d.first) m)
      by None e = has
      by (Some b) e =
          let fits = firsts here u d unit_is datum_is in
          let other = λ (ne : ToDatum key ≢ ToDatum here). other-stays (ToDatum here) ne m b d.size (filled d.size d.first) (u, d, unit_is, datum_is, e, refl) (omega (arith, filled-length d.size d.first fits)) has in
          ⊎_elim (λ (n : name ≡ key.unit). ⊎_elim
          (λ (k : number ≡ key.number).
          let same = same-key n k in
          let placed : Some b ≡ Some offset = sym e ∙ ap choice.datum same ∙ is.placed in
          let units : Some u ≡ Some unit = sym unit_is ∙ ap program.unit n ∙ is.unit_is in
          let u_is : u ≡ unit = cc in
          let stands_so : Some d ≡ Some datum = sym datum_is ∙ ap (λ (v : UnitCode). slice_get v.globals number) u_is ∙ ap (slice_get unit.globals) k ∙ is.datum_is in
          let d_is : d ≡ datum = cc in
          let b_is : b ≡ offset = cc in
          subst (λ (v : Datum). Stands (laid m (place choice.data_segment b) 0 (filled v.size v.first))) (sym d_is)
          (subst (λ (v : ℕ). Stands (laid m (place choice.data_segment v) 0 bytes)) (sym b_is) (self-stands m)))
          (λ ne. other (λ f. ne (sym (ap (λ (x : Mention). (key-of x).number) f)))) (cases_eq number key.number))
          (λ ne. other (λ f. ne (sym (ap (λ (x : Mention). (key-of x).unit) f)))) (same-name name key.unit)

  -- ---- the data of a unit

  -- a list is the rest of another one from a place on
  abbrev From : {A : Type 0} → List A → List A → ℕ → Type 0
  From {A} xs all number = (i : ℕ) (x : A) → slice_get xs i ≡ Some x → slice_get all (number + i) ≡ Some x

  from-next : {A : Type 0} (x : A) (xs all : List A) (number : ℕ) → From (x ∷ xs) all number → From xs all (number + 1)
  from-next x xs all number from i y e = let same : number + suc i ≡ number + 1 + i = omega arith in subst (λ k. slice_get all k ≡ Some y) same (from (suc i) y e)

  from-first : {A : Type 0} (x : A) (xs all : List A) (number : ℕ) → From (x ∷ xs) all number → slice_get all number ≡ Some x
  from-first x xs all number from = let same : number + 0 ≡ number = omega arith in subst (λ k. slice_get all k ≡ Some x) same (from 0 x refl)

  data-stay : (name : Name) (u : UnitCode) → program.unit name ≡ Some u → (data_of : List Datum) (number : ℕ) → From data_of u.globals number → (m : Cells) → Stands m → Stands (with_data choice name number data_of m)
  data-stay name u unit_is [] number from m has = has
  data-stay name u unit_is (d ∷ rest) number from m has =
      data-stay name u unit_is rest (number + 1) (from-next d rest u.globals number from) (laid_at choice (choice.datum (record { unit = name; number = number })) (filled d.size d.first) m)
      (datum-stays name number u d unit_is (from-first d rest u.globals number from) m has)

  -- the datum's own turn comes
  data-lay : (data_of : List Datum) (number j : ℕ) → number + j ≡ key.number → slice_get data_of j ≡ Some datum → From data_of unit.globals number → (m : Cells) → Stands (with_data choice key.unit number data_of m)
  data-lay [] number j at is_there from m = absurd cc
  data-lay (d ∷ rest) number zero at is_there from m =
      let here : number ≡ key.number = omega (arith, at) in
      let d_is : d ≡ datum = cc in
      let placed : choice.datum (record { unit = key.unit; number = number }) ≡ Some offset = ap (λ (n : ℕ). choice.datum (record { unit = key.unit; number = n })) here ∙ is.placed in
      data-stay key.unit unit is.unit_is rest (number + 1) (from-next d rest unit.globals number from) (laid_at choice (choice.datum (record { unit = key.unit; number = number })) (filled d.size d.first) m)
      (subst (λ o. Stands (laid_at choice o (filled d.size d.first) m)) (sym placed)
      (subst (λ (v : Datum). Stands (laid m (place choice.data_segment offset) 0 (filled v.size v.first))) (sym d_is) (self-stands m)))
  data-lay (d ∷ rest) number (suc j) at is_there from m =
      data-lay rest (number + 1) j (omega (arith, at)) is_there (from-next d rest unit.globals number from) (laid_at choice (choice.datum (record { unit = key.unit; number = number })) (filled d.size d.first) m)

  -- ---- virtual method tables

  slot-length : (o : Option Place) → length (pointer_bytes o) ≡ 4
  slot-length None = length-replicate {A = ℕ} 4 0
  slot-length (Some p) = refl

  slots-length : (own : Name) (names : List Name) (slots : List (ℕ × ℕ)) → length (slots_bytes choice own names slots) ≡ 4 * length slots
  slots-length own names [] = refl
  slots-length own names (slot ∷ slots) =
      let first = slot-length (option_and_then (λ name. choice.far (record { unit = name; number = slot.1 })) (named own names slot.0)) in
      let more = slots-length own names slots in
      length-append (slot_bytes choice own names slot) (slots_bytes choice own names slots) ∙ omega (arith, first, more)

  vmt-length : (own : Name) (names : List Name) (vmt : Vmt) → length (vmt_bytes choice own names vmt) ≤ 4 + 4 * length vmt.slots
  vmt-length own names vmt = let more = slots-length own names vmt.slots in omega (arith, more)

  vmts-stay : (name : Name) (u : UnitCode) → program.unit name ≡ Some u → (vmts : List Vmt) (number : ℕ) → From vmts u.vmts number → (m : Cells) → Stands m → Stands (with_vmts choice name u.names number vmts m)
  vmts-stay name u unit_is [] number from m has = has
  vmts-stay name u unit_is (vmt ∷ rest) number from m has =
      vmts-stay name u unit_is rest (number + 1) (from-next vmt rest u.vmts number from) (laid_at choice (choice.vmt here) (vmt_bytes choice name u.names vmt) m) (by (choice.vmt here) refl)
    where
      here : Key
      here = record { unit = name; number = number }

      by : (o : Option ℕ) → choice.vmt here ≡ o → Stands (laid_at choice o (vmt_bytes choice name u.names vmt) m)
      by None e = has
      by (Some b) e =
          let differ : ToDatum key ≢ ToVmt here = λ f. absurd cc in
          other-stays (ToVmt here) differ m b (4 + 4 * length vmt.slots) (vmt_bytes choice name u.names vmt) (u, vmt, unit_is, from-first vmt rest u.vmts number from, e, refl) (vmt-length name u.names vmt) has

  -- ---- units

  whole-from : {A : Type 0} (xs : List A) → From xs xs 0
  whole-from xs i x e = let same : 0 + i ≡ i = omega arith in subst (λ k. slice_get xs k ≡ Some x) (sym same) e

  unit-stays : (name : Name) (o : Option UnitCode) → program.unit name ≡ o → (m : Cells) → Stands m → Stands (with_unit choice name o m)
  unit-stays name None e m has = has
  unit-stays name (Some u) e m has = vmts-stay name u e u.vmts 0 (whole-from u.vmts) (with_data choice name 0 u.globals m) (data-stay name u e u.globals 0 (whole-from u.globals) m has)

  units-stay : (names : List Name) (m : Cells) → Stands m → Stands (with_units program choice names m)
  units-stay [] m has = has
  units-stay (name ∷ names) m has = units-stay names (with_unit choice name (program.unit name) m) (unit-stays name (program.unit name) refl m has)

  unit-lays : (name : Name) → name ≡ key.unit → (m : Cells) → Stands (with_unit choice name (program.unit name) m)
  unit-lays name same m =
      subst (λ (n : Name). Stands (with_unit choice n (program.unit n) m)) (sym same)
      (subst (λ (o : Option UnitCode). Stands (with_unit choice key.unit o m)) (sym is.unit_is)
      (vmts-stay key.unit unit is.unit_is unit.vmts 0 (whole-from unit.vmts) (with_data choice key.unit 0 unit.globals m) (data-lay unit.globals 0 key.number (omega arith) is.datum_is (whole-from unit.globals) m)))

  units-lay : (names : List Name) (k : ℕ) → k < length names → get_or names k key.unit ≡ key.unit → (m : Cells) → Stands (with_units program choice names m)
  units-lay [] k h e m = absurd (omega (arith, h))
  units-lay (name ∷ names) zero h e m = units-stay names (with_unit choice name (program.unit name) m) (unit-lays name e m)
  units-lay (name ∷ names) (suc k) h e m = units-lay names k (omega (arith, h)) e (with_unit choice name (program.unit name) m)

  -- ---- what the runtime finds

  found-stays : (here : Key) → key ≢ here → (ys : List ℕ) → ((b : ℕ) → choice.datum here ≡ Some b → (size : ℕ) × (length ys ≤ size) × TakesData program choice (ToDatum here) b size) → (m : Cells) → Stands m → Stands (laid_at choice (choice.datum here) ys m)
  found-stays here ne ys fits m has = by (choice.datum here) refl
    where
      by : (o : Option ℕ) → choice.datum here ≡ o → Stands (laid_at choice o ys m)
      by None e = has
      by (Some b) e = let f = fits b e in other-stays (ToDatum here) (λ g. ne (ap key-of g)) m b f.0 ys f.2 f.1 has

  pub start : FitsRuntime program choice → IsOther key → StandsFirst program choice datum offset
  start fits other =
      let m0 = with_units program choice program.order (region (λ x. Outside) choice.heap_segment 0 program.heap (Known 0)) in
      let m1 = laid_at choice (choice.datum heap_segment_key) (word_bytes choice.heap_segment) m0 in
      let m2 = laid_at choice (choice.datum heap_bytes_key) (number_bytes 4 program.heap) m1 in
      let listed = is.listed in
      found-stays ovr_name_key other.name (length program.ovr_name ∷ program.ovr_name) fits.name m2
      (found-stays heap_bytes_key other.bytes (number_bytes 4 program.heap) fits.bytes m1
      (found-stays heap_segment_key other.segment (word_bytes choice.heap_segment) fits.segment m0
      (units-lay program.order listed.0 listed.1 listed.2 (region (λ x. Outside) choice.heap_segment 0 program.heap (Known 0)))))
