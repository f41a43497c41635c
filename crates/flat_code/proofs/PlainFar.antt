-- The far pointers of the interpreter's choice, and what they call.
use Rattle.std.proofs.Common.{◌≡◌, ℕ, zero, suc, ◌+◌, ◌<◌, Bool, true, false, List, [], ◌∷◌, length, Option, Some, None, refl, sym, ap, subst, ◌∙◌, arith}
use Rattle.std.specs.Prelude.{if◌then◌else◌, ◌&&◌, nat_lt, slice_get}
use Rattle.std.specs.Option.{option_and_then}
use Rattle.std.specs.Cmp.Lexicographic.{same_text, bytes_decides}
use Rattle.std.proofs.lemmas.Bool.{ltb-true, lt-ltb}
use Rattle.type_layout.specs.Words.{same_bytes}
use Rattle.flat_code.specs.declared.memory.Place.{Place}
use Rattle.flat_code.specs.Program.{Name, Key, Routine, UnitCode}
use Rattle.flat_code.specs.Plain.{name_at, unit_from, unit_size, far_of, far_if, callee_of, key_if, IsDifferent}
use Rattle.flat_code.proofs.PlainChoice.{Found, place_of, with_first, unit-placed}

pub far-placed : (at start : ℕ) (units : List UnitCode) (name : Name) (n : ℕ) → far_of at units name n ≡ option_and_then (λ (u : Found). option_and_then (λ (r : Routine). far_if r.far u.at n) (slice_get u.unit.routines n)) (place_of at start units name)
far-placed at start [] name n = refl
far-placed at start (x ∷ units) name n =
    with_first (same_bytes (name_at at x) name) (record { unit = x; start = start; at = at }) (place_of (at + 1) (start + unit_size x) units name) (λ (u : Found). option_and_then (λ (r : Routine). far_if r.far u.at n) (slice_get u.unit.routines n)) (far_of (at + 1) units name n) (far-placed (at + 1) (start + unit_size x) units name n)

-- the unit that was found stands there in the list, and has the name
pub record IsAt (at : ℕ) (units : List UnitCode) (name : Name) (u : Found) : Type 0 where
  pub index : ℕ
  pub at_is : u.at ≡ at + index
  pub below : index < length units
  pub is : slice_get units index ≡ Some u.unit
  pub name_is : name_at u.at u.unit ≡ name

at_by : (b : Bool) (at start : ℕ) (x : UnitCode) (units : List UnitCode) (name : Name) (rest : Option Found) (u : Found) → b ≡ same_bytes (name_at at x) name → (if b then Some (record { unit = x; start = start; at = at }) else rest) ≡ Some u → (rest ≡ Some u → IsAt (at + 1) units name u) → IsAt at (x ∷ units) name u
at_by true at start x units name rest u same e more =
    let is : record { unit = x; start = start; at = at } ≡ u = cc in
    subst (λ (v : Found). IsAt at (x ∷ units) name v) is (record { index = 0; at_is = omega arith; below = omega arith; is = refl; name_is = same_text (name_at at x) name same })
at_by false at start x units name rest u same e more =
    let m = more e in
    record { index = suc m.index; at_is = omega (arith, m.at_is); below = omega (arith, m.below); is = m.is; name_is = m.name_is }

pub place-at : (at start : ℕ) (units : List UnitCode) (name : Name) (u : Found) → place_of at start units name ≡ Some u → IsAt at units name u
place-at at start [] name u e = absurd cc
place-at at start (x ∷ units) name u e = at_by (same_bytes (name_at at x) name) at start x units name (place_of (at + 1) (start + unit_size x) units name) u refl e (place-at (at + 1) (start + unit_size x) units name u)

pub callee-index : (at : ℕ) (units : List UnitCode) (d n : ℕ) → callee_of at units d n ≡ option_and_then (λ (unit : UnitCode). option_and_then (λ (r : Routine). key_if r.far (name_at (at + d) unit) n) (slice_get unit.routines n)) (slice_get units d)
callee-index at [] d n = refl
callee-index at (x ∷ units) zero n =
    let same : at ≡ at + 0 = omega arith in
    ap (λ k. option_and_then (λ (r : Routine). key_if r.far (name_at k x) n) (slice_get x.routines n)) same
callee-index at (x ∷ units) (suc d) n =
    let same : at + 1 + d ≡ at + suc d = omega arith in
    callee-index (at + 1) units d n ∙ ap (λ k. option_and_then (λ (unit : UnitCode). option_and_then (λ (r : Routine). key_if r.far (name_at k unit) n) (slice_get unit.routines n)) (slice_get units d)) same

-- where the names differ, each unit is the one that its name finds
pub record Finds (at start : ℕ) (units : List UnitCode) (index : ℕ) (x : UnitCode) : Type 0 where
  pub of : Found
  pub found : place_of at start units (name_at (at + index) x) ≡ Some of
  pub at_is : of.at ≡ at + index
  pub unit_is : of.unit ≡ x

none_some : {A : Type 0} (o : Option A) (x : A) → o ≡ None → o ≡ Some x → ⊥
none_some o x p q = cc

later_by : (b : Bool) (at start : ℕ) (y : UnitCode) (units : List UnitCode) (index : ℕ) (x : UnitCode) → b ≡ same_bytes (name_at at y) (name_at (at + 1 + index) x) → unit_from (at + 1) units (name_at at y) ≡ None → (f : Finds (at + 1) (start + unit_size y) units index x) → (if b then Some (record { unit = y; start = start; at = at }) else place_of (at + 1) (start + unit_size y) units (name_at (at + 1 + index) x)) ≡ Some f.of
later_by true at start y units index x same none f =
    let other = same_text (name_at at y) (name_at (at + 1 + index) x) same in
    let there = unit-placed (at + 1) (start + unit_size y) units (name_at (at + 1 + index) x) ∙ ap (option_and_then (λ (u : Found). Some u.unit)) f.found in
    absurd (none_some (unit_from (at + 1) units (name_at at y)) f.of.unit none (ap (unit_from (at + 1) units) other ∙ there))
later_by false at start y units index x same none f = f.found

pub finds-itself : (at start : ℕ) (units : List UnitCode) (index : ℕ) (x : UnitCode) → IsDifferent at units → slice_get units index ≡ Some x → Finds at start units index x
finds-itself at start [] index x h e = absurd cc
finds-itself at start (y ∷ units) zero x h e =
    let is : y ≡ x = cc in
    let same : at ≡ at + 0 = omega arith in
    let u : Found = record { unit = y; start = start; at = at } in
    let name : name_at at y ≡ name_at (at + 0) x = ap (λ k. name_at k y) same ∙ ap (name_at (at + 0)) is in
    let test : same_bytes (name_at at y) (name_at (at + 0) x) ≡ true = (bytes_decides (name_at at y) (name_at (at + 0) x)).1 name in
    record {
      of = u;
      found = ap (λ b. if b then Some u else place_of (at + 1) (start + unit_size y) units (name_at (at + 0) x)) test;
      at_is = same;
      unit_is = is;
    }
finds-itself at start (y ∷ units) (suc index) x h e =
    let f = finds-itself (at + 1) (start + unit_size y) units index x h.1 e in
    let same : at + 1 + index ≡ at + suc index = omega arith in
    let found = later_by (same_bytes (name_at at y) (name_at (at + 1 + index) x)) at start y units index x refl h.0 f in
    record {
      of = f.of;
      found = subst (λ k. place_of at start (y ∷ units) (name_at k x) ≡ Some f.of) same found;
      at_is = f.at_is ∙ same;
      unit_is = f.unit_is;
    }

-- what a far pointer is, and what it needs
pub far-is : (far : Bool) (at n : ℕ) (p : Place) → far_if far at n ≡ Some p → (far ≡ true) × (n < 65536) × (p ≡ record { segment = 61440 + at; offset = n })
far-is far at n p e = by far (nat_lt n 65536) at n p refl e
  where
    by : (far small : Bool) (at n : ℕ) (p : Place) → small ≡ nat_lt n 65536 → (if far && small then Some (record { segment = 61440 + at; offset = n }) else None) ≡ Some p → (far ≡ true) × (n < 65536) × (p ≡ record { segment = 61440 + at; offset = n })
    by true true at n p s e = (refl, ltb-true n 65536 (sym s), cc)
    by true false at n p s e = absurd cc
    by false small at n p s e = absurd cc

pub far-some : (at n : ℕ) → n < 65536 → far_if true at n ≡ Some (record { segment = 61440 + at; offset = n })
far-some at n h = ap (λ b. if true && b then Some (record { segment = 61440 + at; offset = n }) else None) (lt-ltb n 65536 h)

pub key-is : (far : Bool) (name : Name) (n : ℕ) (key : Key) → key_if far name n ≡ Some key → (far ≡ true) × (key ≡ record { unit = name; number = n })
key-is true name n key e = (refl, cc)
key-is false name n key e = absurd cc
