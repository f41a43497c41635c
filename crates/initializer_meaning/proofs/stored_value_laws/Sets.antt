-- Sets are read back.
use Rattle.std.proofs.Common.{◌≡◌, ◌≤◌, ◌<◌, ℕ, zero, suc, ◌+◌, ◌-◌, ◌*◌, ◌/◌, ◌%◌, ◌^◌, ◌==◌, Bool, true, false, cond, ◌&&◌, ◌||◌, List, [], ◌∷◌, ◌++◌, length, map, take, drop, refl, ap, sym, ◌∙◌, arith, eqb, leb}
use Rattle.std.specs.List.{range_with_len}
use Rattle.std.proofs.Math.Seq.{take-append_seam, drop-append_seam}
use Rattle.std.proofs.lemmas.Bool.{eqb-true, eqb-false, eq-eqb, ne_eqb, leb-true, leb-false}
use Rattle.std.proofs.lemmas.Nat.{shr-shr}
use Rattle.std.proofs.lemmas.List.FromFn.{length-map-range_with_len}
use Rattle.common_values.specs.Sets.{contains, set_byte, set_bytes}
use Rattle.common_values.proofs.SetLemmas.{byte_laws}
use Rattle.tp_meaning.specs.Trees.{Tree, Elements, holding}
use Rattle.tp_meaning.specs.Shapes.{elements_in, elements_from}
use Rattle.initializer_meaning.specs.stored_value_laws.Laws.{IsReadBack}

or-none : (x : Bool) → (x || false) ≡ x
or-none true = refl
or-none false = refl

and-none : (x : Bool) → (x && false) ≡ false
and-none true = refl
and-none false = refl

and-all : (x : Bool) → (x && true) ≡ x
and-all true = refl
and-all false = refl

or-more : (x y z : Bool) → (x || (y || z)) ≡ (x || y || z)
or-more true y z = refl
or-more false y z = refl

contains-append : (a b : List ℕ) (e : ℕ) → contains (a ++ b) e ≡ (contains a e || contains b e)
contains-append [] b e = refl
contains-append (x ∷ a) b e = ap (λ v. eqb x e || v) (contains-append a b e) ∙ or-more (eqb x e) (contains a e) (contains b e)

-- ---- the elements of one byte

alone : (b : Bool) (a e : ℕ) → contains (cond b (a ∷ []) []) e ≡ (b && eqb a e)
alone true a e = or-none (eqb a e)
alone false a e = refl

byte_step : (n a byte e : ℕ) → contains (elements_in (suc n) a byte) e ≡ ((byte % 2 == 1) && eqb a e || contains (elements_in n (a + 1) (byte / 2)) e)
byte_step n a byte e =
    contains-append (cond (byte % 2 == 1) (a ∷ []) []) (elements_in n (a + 1) (byte / 2)) e
    ∙ ap (λ v. v || contains (elements_in n (a + 1) (byte / 2)) e) (alone (byte % 2 == 1) a e)

-- the first element of a byte, and those behind it
step_by : (n a byte e : ℕ) (here behind : Bool) → eqb a e ≡ here → contains (elements_in n (a + 1) (byte / 2)) e ≡ behind
    → contains (elements_in (suc n) a byte) e ≡ ((byte % 2 == 1) && here || behind)
step_by n a byte e here behind p q =
    byte_step n a byte e ∙ ap (λ v. (byte % 2 == 1) && v || contains (elements_in n (a + 1) (byte / 2)) e) p ∙ ap (λ v. (byte % 2 == 1) && here || v) q

neither : (b : Bool) → (b && false || false) ≡ false
neither true = refl
neither false = refl

first_alone : (b : Bool) → (b && true || false) ≡ b
first_alone true = refl
first_alone false = refl

later : (b v : Bool) → (b && false || v) ≡ v
later true v = refl
later false v = refl

below : (n a byte e : ℕ) → e < a → contains (elements_in n a byte) e ≡ false
below zero a byte e h = refl
below (suc n) a byte e h =
    step_by n a byte e false false (ne_eqb a e (λ q. omega (arith, q, h))) (below n (a + 1) (byte / 2) e (omega (arith, h))) ∙ neither (byte % 2 == 1)

above : (n a byte e : ℕ) → a + n ≤ e → contains (elements_in n a byte) e ≡ false
above zero a byte e h = refl
above (suc n) a byte e h =
    step_by n a byte e false false (ne_eqb a e (λ q. omega (arith, q, h))) (above n (a + 1) (byte / 2) e (omega (arith, h))) ∙ neither (byte % 2 == 1)

inside : (n a byte k e : ℕ) → k < n → e ≡ a + k → contains (elements_in n a byte) e ≡ (byte / 2 ^ k % 2 == 1)
inside zero a byte k e h p = absurd (omega (arith, h))
inside (suc n) a byte zero e h p =
    let same : byte % 2 ≡ byte / 1 % 2 = omega arith in
    step_by n a byte e true false (eq-eqb a e (omega (arith, p))) (below n (a + 1) (byte / 2) e (omega (arith, p))) ∙ first_alone (byte % 2 == 1) ∙ ap (λ m. m == 1) same
inside (suc n) a byte (suc k) e h p =
    let i = inside n (a + 1) (byte / 2) k e (omega (arith, h)) (omega (arith, p)) in
    let power : 1 + k ≡ suc k = omega arith in
    step_by n a byte e false _ (ne_eqb a e (λ q. omega (arith, q, p))) i ∙ later (byte % 2 == 1) (byte / 2 / 2 ^ k % 2 == 1)
    ∙ ap (λ m. m % 2 == 1) (shr-shr byte 1 k ∙ ap (λ m. byte / 2 ^ m) power)

bit_tells : (c : Bool) → (cond c 1 0 == 1) ≡ c
bit_tells true = refl
bit_tells false = refl

-- the byte of an element
own_byte : (set : List ℕ) (b e : ℕ) → b ≡ e / 8 → contains (elements_in 8 (8 * b) (set_byte set b)) e ≡ contains set e
own_byte set b e q =
    let place : e ≡ 8 * b + e % 8 = omega (arith, q) in
    let bit : set_byte set b / 2 ^ (e % 8) % 2 ≡ cond (contains set e) 1 0 = ap (λ m. set_byte set m / 2 ^ (e % 8) % 2) q ∙ byte_laws.bit set e in
    inside 8 (8 * b) (set_byte set b) (e % 8) e (omega arith) place ∙ ap (λ m. m == 1) bit ∙ bit_tells (contains set e)

-- ---- the elements of all bytes

module _ (set : List ℕ) (e : ℕ) where
  all_step : (b n : ℕ) (here behind : Bool) → contains (elements_in 8 (8 * b) (set_byte set b)) e ≡ here
      → contains (elements_from (8 * (b + 1)) (map (set_byte set) (range_with_len (b + 1) n))) e ≡ behind
      → contains (elements_from (8 * b) (map (set_byte set) (range_with_len b (suc n)))) e ≡ (here || behind)
  all_step b n here behind p q =
      let next : 8 * b + 8 ≡ 8 * (b + 1) = omega arith in
      contains-append (elements_in 8 (8 * b) (set_byte set b)) (elements_from (8 * b + 8) (map (set_byte set) (range_with_len (b + 1) n))) e
      ∙ ap (λ v. v || contains (elements_from (8 * b + 8) (map (set_byte set) (range_with_len (b + 1) n))) e) p
      ∙ ap (λ m. here || contains (elements_from m (map (set_byte set) (range_with_len (b + 1) n))) e) next
      ∙ ap (λ v. here || v) q

  all_below : (n b : ℕ) → e / 8 < b → contains (elements_from (8 * b) (map (set_byte set) (range_with_len b n))) e ≡ false
  all_below zero b h = refl
  all_below (suc n) b h = all_step b n false false (below 8 (8 * b) (set_byte set b) e (omega (arith, h))) (all_below n (b + 1) (omega (arith, h)))

  all_above : (n b : ℕ) → b + n ≤ e / 8 → contains (elements_from (8 * b) (map (set_byte set) (range_with_len b n))) e ≡ false
  all_above zero b h = refl
  all_above (suc n) b h = all_step b n false false (above 8 (8 * b) (set_byte set b) e (omega (arith, h))) (all_above n (b + 1) (omega (arith, h)))

  found_by : (b n : ℕ) (here : Bool) → eqb b (e / 8) ≡ here → b ≤ e / 8
      → (b + 1 ≤ e / 8 → contains (elements_from (8 * (b + 1)) (map (set_byte set) (range_with_len (b + 1) n))) e ≡ contains set e)
      → contains (elements_from (8 * b) (map (set_byte set) (range_with_len b (suc n)))) e ≡ contains set e
  found_by b n true p lo ih =
      let q = eqb-true b (e / 8) p in
      all_step b n (contains set e) false (own_byte set b e q) (all_below n (b + 1) (omega (arith, q))) ∙ or-none (contains set e)
  found_by b n false p lo ih =
      let more : b + 1 ≤ e / 8 = let q = eqb-false b (e / 8) p in omega (arith, q, lo) in
      all_step b n false (contains set e) (above 8 (8 * b) (set_byte set b) e (omega (arith, more))) (ih more)

  found : (n b : ℕ) → b ≤ e / 8 → e / 8 < b + n → contains (elements_from (8 * b) (map (set_byte set) (range_with_len b n))) e ≡ contains set e
  found zero b lo hi = absurd (omega (arith, lo, hi))
  found (suc n) b lo hi = found_by b n (eqb b (e / 8)) refl lo (λ more. found n (b + 1) more (omega (arith, hi)))

  same_by : (low high : ℕ) (p q : Bool) → low ≤ high → leb (low / 8) (e / 8) ≡ p → leb (e / 8) (high / 8) ≡ q
      → contains (elements_from (8 * (low / 8)) (set_bytes low high set)) e ≡ (contains set e && (p && q))
  same_by low high true true h p q =
      let lo = leb-true (low / 8) (e / 8) p in let hi = leb-true (e / 8) (high / 8) q in
      found (high / 8 - low / 8 + 1) (low / 8) lo (omega (arith, lo, hi)) ∙ sym (and-all (contains set e))
  same_by low high true false h p q =
      let hi = leb-false (e / 8) (high / 8) q in
      all_above (high / 8 - low / 8 + 1) (low / 8) (omega (arith, hi, h)) ∙ sym (and-none (contains set e))
  same_by low high false q h p r =
      let lo = leb-false (low / 8) (e / 8) p in
      all_below (high / 8 - low / 8 + 1) (low / 8) (omega (arith, lo)) ∙ sym (and-none (contains set e))

taken : (m : ℕ) (xs rest : List ℕ) → length xs ≡ m → take m (xs ++ rest) ≡ xs
taken m xs rest e = ap (λ (k : ℕ). take k (xs ++ rest)) (sym e) ∙ take-append_seam xs rest

left : (m : ℕ) (xs rest : List ℕ) → length xs ≡ m → drop m (xs ++ rest) ≡ rest
left m xs rest e = ap (λ (k : ℕ). drop k (xs ++ rest)) (sym e) ∙ drop-append_seam xs rest

pub sets : (low high : ℕ) (set : List ℕ) → low ≤ high → IsReadBack low high set
sets low high set h =
    let bytes = set_bytes low high set in
    let m = high / 8 - low / 8 + 1 in
    let many : length bytes ≡ m = length-map-range_with_len (set_byte set) (low / 8) m in
    record {
      read = elements_from (8 * (low / 8)) bytes;
      is = λ rest.
          ap (λ (x : List ℕ). let y : Tree × List ℕ = (holding (Elements (elements_from (8 * (low / 8)) x)), drop m (bytes ++ rest)) in y) (taken m bytes rest many)
          ∙ ap (λ (x : List ℕ). let y : Tree × List ℕ = (holding (Elements (elements_from (8 * (low / 8)) bytes)), x) in y) (left m bytes rest many);
      same = λ e. same_by set e low high (leb (low / 8) (e / 8)) (leb (e / 8) (high / 8)) h refl refl;
    }
