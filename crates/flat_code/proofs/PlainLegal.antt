-- The choice of the interpreter is legal for a program of which all is reached.
use Rattle.std.proofs.Common.{◌≡◌, ◌≢◌, ℕ, ◌+◌, ◌-◌, ◌≤◌, ◌<◌, ◌↔◌, inl, inr, Bool, true, false, List, Option, Some, None, refl, sym, ap, subst, ◌∙◌, arith}
use Rattle.std.specs.Prelude.{◌%◌, if◌then◌else◌, nat_le, slice_get, is_some, IsSome}
use Rattle.std.specs.Option.{option_and_then}
use Rattle.std.proofs.lemmas.Bool.{leb-true, le-leb}
use Rattle.std.proofs.lemmas.Option.{slice_get_within}
use Rattle.flat_code.specs.declared.memory.Place.{Place}
use Rattle.flat_code.specs.Program.{Name, Key, Routine, UnitCode, routine_of}
use Rattle.flat_code.specs.Legal.{Mention, ToRoutine, ToDatum, ToVmt, IsThere, TakesData, IsApart, IsLegal}
use Rattle.flat_code.specs.Plain.{name_at, unit_from, units_size, datum_of, vmt_of, datum_from, vmt_from, data_size, far_of, far_if, callee_of, key_if, program_of, choice_of, HasPlaces}
use Rattle.flat_code.proofs.PlainChoice.{Found, place_of, datum-placed, vmt-placed, unit-placed, and_then-some, unit_found, datum_there, datum_listed, vmt_there, vmt_listed, datum_lies, vmt_lies, datum_in, vmt_in, data_apart, vmts_apart, datum-vmt-apart, within-units}
use Rattle.flat_code.proofs.PlainFar.{place-at, far-placed, callee-index, finds-itself, far-is, far-some, key-is}

some-of : {A : Type 0} (o : Option A) → is_some o ≡ true → (a : A) × (o ≡ Some a)
some-of None e = absurd cc
some-of (Some a) e = (a, refl)

is-some : {A : Type 0} (o : Option A) (a : A) → o ≡ Some a → is_some o ≡ true
is-some o a e = ap is_some e

module _ (units : List UnitCode) (overlaid : List Name) (stack heap : ℕ) where
  datum-there : (key : Key) → IsSome (datum_of 0 0 units key.unit key.number) ↔ IsThere (program_of units overlaid stack heap) (ToDatum key)
  datum-there key = (
    λ p. let o = some-of (datum_of 0 0 units key.unit key.number) p in
        let f = and_then-some (λ (u : Found). datum_from u.start u.unit.globals key.number) (place_of 0 0 units key.unit) o.0 (sym (datum-placed 0 0 units key.unit key.number) ∙ o.1) in
        let d = datum_listed f.0.start f.0.unit.globals key.number o.0 f.2 in
        (f.0.unit, d.0, unit-placed 0 0 units key.unit ∙ ap (option_and_then (λ (u : Found). Some u.unit)) f.1, d.1),
    λ t. let f = unit_found units key.unit t.0 t.2 in
        let d = datum_there f.0.start f.0.unit.globals key.number t.1 (ap (λ (u : UnitCode). slice_get u.globals key.number) f.2 ∙ t.3) in
        is-some (datum_of 0 0 units key.unit key.number) d.0 (datum-placed 0 0 units key.unit key.number ∙ ap (option_and_then (λ (u : Found). datum_from u.start u.unit.globals key.number)) f.1 ∙ d.1),
  )

  vmt-there : (key : Key) → IsSome (vmt_of 0 0 units key.unit key.number) ↔ IsThere (program_of units overlaid stack heap) (ToVmt key)
  vmt-there key = (
    λ p. let o = some-of (vmt_of 0 0 units key.unit key.number) p in
        let f = and_then-some (λ (u : Found). vmt_from (u.start + data_size u.unit.globals) u.unit.vmts key.number) (place_of 0 0 units key.unit) o.0 (sym (vmt-placed 0 0 units key.unit key.number) ∙ o.1) in
        let d = vmt_listed (f.0.start + data_size f.0.unit.globals) f.0.unit.vmts key.number o.0 f.2 in
        (f.0.unit, d.0, unit-placed 0 0 units key.unit ∙ ap (option_and_then (λ (u : Found). Some u.unit)) f.1, d.1),
    λ t. let f = unit_found units key.unit t.0 t.2 in
        let d = vmt_there (f.0.start + data_size f.0.unit.globals) f.0.unit.vmts key.number t.1 (ap (λ (u : UnitCode). slice_get u.vmts key.number) f.2 ∙ t.3) in
        is-some (vmt_of 0 0 units key.unit key.number) d.0 (vmt-placed 0 0 units key.unit key.number ∙ ap (option_and_then (λ (u : Found). vmt_from (u.start + data_size u.unit.globals) u.unit.vmts key.number)) f.1 ∙ d.1),
  )

  -- ---- bytes of the data segment

  lies_inside : (mention : Mention) (offset size : ℕ) → TakesData (program_of units overlaid stack heap) (choice_of units) mention offset size → offset + size ≤ units_size units
  lies_inside (ToRoutine key) offset size t = absurd t
  lies_inside (ToDatum key) offset size t =
      let d = datum_lies units key.unit key.number offset size t.0 t.1 t.2 t.3 t.4 t.5 in
      let w = within-units 0 0 units key.unit d.of d.found in
      let b = datum_in units key.unit key.number offset size d in
      omega (arith, w.1, b.1)
  lies_inside (ToVmt key) offset size t =
      let d = vmt_lies units key.unit key.number offset size t.0 t.1 t.2 t.3 t.4 t.5 in
      let w = within-units 0 0 units key.unit d.of d.found in
      let b = vmt_in units key.unit key.number offset size d in
      omega (arith, w.1, b.1)

  turned : (a m b n : ℕ) → IsApart a m b n → IsApart b n a m
  turned a m b n (inl p) = inr p
  turned a m b n (inr p) = inl p

  same_key : (key other : Key) → (key.unit ≡ other.unit) × (key.number ≡ other.number) → key ≡ other
  same_key key other e = ap (λ (name : Name). record { unit = name; number = key.number }) e.0 ∙ ap (λ n. record { unit = other.unit; number = n }) e.1

  lie_apart : (first second : Mention) (a m b n : ℕ) → first ≢ second → TakesData (program_of units overlaid stack heap) (choice_of units) first a m → TakesData (program_of units overlaid stack heap) (choice_of units) second b n → IsApart a m b n
  lie_apart (ToRoutine key) second a m b n ne s t = absurd s
  lie_apart (ToDatum key) (ToRoutine other) a m b n ne s t = absurd t
  lie_apart (ToVmt key) (ToRoutine other) a m b n ne s t = absurd t
  lie_apart (ToDatum key) (ToDatum other) a m b n ne s t =
      data_apart units key.unit other.unit key.number other.number a b m n (λ e. ne (ap ToDatum (same_key key other e)))
      (datum_lies units key.unit key.number a m s.0 s.1 s.2 s.3 s.4 s.5) (datum_lies units other.unit other.number b n t.0 t.1 t.2 t.3 t.4 t.5)
  lie_apart (ToVmt key) (ToVmt other) a m b n ne s t =
      vmts_apart units key.unit other.unit key.number other.number a b m n (λ e. ne (ap ToVmt (same_key key other e)))
      (vmt_lies units key.unit key.number a m s.0 s.1 s.2 s.3 s.4 s.5) (vmt_lies units other.unit other.number b n t.0 t.1 t.2 t.3 t.4 t.5)
  lie_apart (ToDatum key) (ToVmt other) a m b n ne s t =
      datum-vmt-apart units key.unit other.unit key.number other.number a b m n
      (datum_lies units key.unit key.number a m s.0 s.1 s.2 s.3 s.4 s.5) (vmt_lies units other.unit other.number b n t.0 t.1 t.2 t.3 t.4 t.5)
  lie_apart (ToVmt key) (ToDatum other) a m b n ne s t =
      turned b n a m (datum-vmt-apart units other.unit key.unit other.number key.number b a n m
      (datum_lies units other.unit other.number b n t.0 t.1 t.2 t.3 t.4 t.5) (vmt_lies units key.unit key.number a m s.0 s.1 s.2 s.3 s.4 s.5))

  -- ---- far pointers

  -- a far pointer, with the routine that it leads to
  record Leads (key : Key) (p : Place) : Type 0 where
    of : Found
    routine : Routine
    found : place_of 0 0 units key.unit ≡ Some of
    is : slice_get of.unit.routines key.number ≡ Some routine
    far : routine.far ≡ true
    small : key.number < 65536
    place_is : p ≡ record { segment = 61440 + of.at; offset = key.number }

  leads : (key : Key) (p : Place) → far_of 0 units key.unit key.number ≡ Some p → Leads key p
  leads key p e =
      let f = and_then-some (λ (u : Found). option_and_then (λ (r : Routine). far_if r.far u.at key.number) (slice_get u.unit.routines key.number)) (place_of 0 0 units key.unit) p (sym (far-placed 0 0 units key.unit key.number) ∙ e) in
      let g = and_then-some (λ (r : Routine). far_if r.far f.0.at key.number) (slice_get f.0.unit.routines key.number) p f.2 in
      let h = far-is g.0.far f.0.at key.number p g.2 in
      record { of = f.0; routine = g.0; found = f.1; is = g.1; far = h.0; small = h.1; place_is = h.2 }

  far_is_there : (key : Key) (u : Found) (r : Routine) → place_of 0 0 units key.unit ≡ Some u → slice_get u.unit.routines key.number ≡ Some r → r.far ≡ true → key.number < 65536 → far_of 0 units key.unit key.number ≡ Some (record { segment = 61440 + u.at; offset = key.number })
  far_is_there key u r p q far small =
      far-placed 0 0 units key.unit key.number
      ∙ ap (option_and_then (λ (u : Found). option_and_then (λ (r : Routine). far_if r.far u.at key.number) (slice_get u.unit.routines key.number))) p
      ∙ ap (option_and_then (λ (r : Routine). far_if r.far u.at key.number)) q
      ∙ ap (λ b. far_if b u.at key.number) far ∙ far-some u.at key.number small

  called_is : (places : HasPlaces units) (key : Key) (p : Place) → 61440 ≤ p.segment → callee_of 0 units (p.segment - 61440) p.offset ≡ Some key → far_of 0 units key.unit key.number ≡ Some p
  called_is places key p above e =
      let d = p.segment - 61440 in
      let n = p.offset in
      let f = and_then-some (λ (unit : UnitCode). option_and_then (λ (r : Routine). key_if r.far (name_at (0 + d) unit) n) (slice_get unit.routines n)) (slice_get units d) key (sym (callee-index 0 units d n) ∙ e) in
      let g = and_then-some (λ (r : Routine). key_if r.far (name_at (0 + d) f.0) n) (slice_get f.0.routines n) key f.2 in
      let k = key-is g.0.far (name_at (0 + d) f.0) n key g.2 in
      let finds = finds-itself 0 0 units d f.0 places.different f.1 in
      let other : Key = record { unit = name_at (0 + d) f.0; number = n } in
      let there : unit_from 0 units other.unit ≡ Some f.0 = unit-placed 0 0 units other.unit ∙ ap (option_and_then (λ (u : Found). Some u.unit)) finds.found ∙ ap Some finds.unit_is in
      let limit = places.numbered other.unit f.0 there in
      let within = slice_get_within f.0.routines n g.0 g.1 in
      let far = far_is_there other finds.of g.0 finds.found (ap (λ (u : UnitCode). slice_get u.routines n) finds.unit_is ∙ g.1) k.0 (omega (arith, limit, within)) in
      let segment : 61440 + finds.of.at ≡ p.segment = omega (arith, finds.at_is, above) in
      subst (λ (key : Key). far_of 0 units key.unit key.number ≡ Some p) (sym k.1) (far ∙ ap (λ s. Some (record { segment = s; offset = n })) segment)

  calls : (key : Key) (p : Place) → far_of 0 units key.unit key.number ≡ Some p → (choice_of units).callee p ≡ Some key
  calls key p e =
      let l = leads key p e in
      let at = place-at 0 0 units key.unit l.of l.found in
      let segment = ap (λ (p : Place). p.segment) l.place_is in
      let offset = ap (λ (p : Place). p.offset) l.place_is in
      let above : 61440 ≤ p.segment = omega (arith, segment) in
      let distance : p.segment - 61440 ≡ at.index = omega (arith, segment, at.at_is) in
      let here : 0 + at.index ≡ l.of.at = omega (arith, at.at_is) in
      ap (λ b. if b then callee_of 0 units (p.segment - 61440) p.offset else None) (le-leb 61440 p.segment above)
      ∙ ap (λ d. callee_of 0 units d p.offset) distance
      ∙ ap (callee_of 0 units at.index) offset
      ∙ callee-index 0 units at.index key.number
      ∙ ap (option_and_then (λ (unit : UnitCode). option_and_then (λ (r : Routine). key_if r.far (name_at (0 + at.index) unit) key.number) (slice_get unit.routines key.number))) at.is
      ∙ ap (option_and_then (λ (r : Routine). key_if r.far (name_at (0 + at.index) l.of.unit) key.number)) l.is
      ∙ ap (λ b. key_if b (name_at (0 + at.index) l.of.unit) key.number) l.far
      ∙ ap (λ k. Some (record { unit = name_at k l.of.unit; number = key.number })) here
      ∙ ap (λ (name : Name). Some (record { unit = name; number = key.number })) at.name_is

  callee_by : (places : HasPlaces units) (key : Key) (p : Place) (b : Bool) → b ≡ nat_le 61440 p.segment → (if b then callee_of 0 units (p.segment - 61440) p.offset else None) ≡ Some key → far_of 0 units key.unit key.number ≡ Some p
  callee_by places key p true s e = called_is places key p (leb-true 61440 p.segment (sym s)) e
  callee_by places key p false s e = absurd cc

  routine_found : (key : Key) (r : Routine) → routine_of (program_of units overlaid stack heap) key ≡ Some r → (u : Found) × (place_of 0 0 units key.unit ≡ Some u) × (slice_get u.unit.routines key.number ≡ Some r) × (unit_from 0 units key.unit ≡ Some u.unit)
  routine_found key r e =
      let f = and_then-some (λ (unit : UnitCode). slice_get unit.routines key.number) (unit_from 0 units key.unit) r e in
      let g = unit_found units key.unit f.0 f.1 in
      (g.0, g.1, ap (λ (u : UnitCode). slice_get u.routines key.number) g.2 ∙ f.2, f.1 ∙ ap Some (sym g.2))

  pub plain_legal : HasPlaces units → stack ≤ 65520 → heap ≤ 196608 → IsLegal (program_of units overlaid stack heap) (choice_of units) (IsThere (program_of units overlaid stack heap))
  plain_legal places low small =
      let top : stack + stack % 2 ≤ 65520 = omega arith in
      record {
        datum = datum-there;
        vmt = vmt-there;
        far = λ key r e far there.
            let f = routine_found key r e in
            let limit = places.numbered key.unit f.0.unit f.3 in
            let within = slice_get_within f.0.unit.routines key.number r f.2 in
            is-some (far_of 0 units key.unit key.number) (record { segment = 61440 + f.0.at; offset = key.number }) (far_is_there key f.0 r f.1 f.2 far (omega (arith, limit, within)));
        far_only = λ key s.
            let o = some-of (far_of 0 units key.unit key.number) s in
            let l = leads key o.0 o.1 in
            let unit = unit-placed 0 0 units key.unit ∙ ap (option_and_then (λ (u : Found). Some u.unit)) l.found in
            let routine = ap (option_and_then (λ (unit : UnitCode). slice_get unit.routines key.number)) unit ∙ l.is in
            (l.routine, routine, l.far, ap is_some routine);
        callee = λ key p. (callee_by places key p (nat_le 61440 p.segment) refl, calls key p);
        words = λ key p e.
            let l = leads key p e in
            let at = place-at 0 0 units key.unit l.of l.found in
            let segment = ap (λ (p : Place). p.segment) l.place_is in
            let offset = ap (λ (p : Place). p.offset) l.place_is in
            let few = places.few in
            (omega (arith, segment, at.at_is, at.below, few), omega (arith, offset, l.small));
        data_bytes = units_size units;
        inside = lies_inside;
        apart = lie_apart;
        data_small = places.small;
        heap_first = omega arith;
        data_stack = inl (omega (arith, places.small));
        data_heap = inl (omega (arith, places.small));
        stack_heap = inl (omega (arith, top));
        data_end = omega (arith, places.small);
        stack_fits = record { small = top; inside = omega (arith, top) };
        heap_end = omega (arith, small);
      }
