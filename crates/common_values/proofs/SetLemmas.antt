-- Which elements a set has, and which bits its bytes.
use Rattle.std.proofs.Common.{◌≡◌, ℕ, zero, suc, ◌+◌, ◌-◌, ◌*◌, ◌/◌, ◌%◌, ◌^◌, ◌<◌, ◌≤◌, Bool, true, false, not, cond, ◌&&◌, ◌||◌, List, [], ◌∷◌, ◌++◌, map, get_or, refl, sym, ap, ◌∙◌, subst, arith, add-one, inl, inr, leb, ltb, eqb}
use Rattle.std.specs.Prelude.{filter}
use Rattle.std.specs.List.{range_with_len}
use Rattle.std.proofs.lemmas.Bool.{eqb-true, eq-eqb, le-leb, and_parts, and_from, cases_eq}
use Rattle.std.proofs.lemmas.Bool.Decides.{nat_tests}
use Rattle.std.proofs.lemmas.Nat.{pow_pos, pow-add, shr_high, shr_split, mul-le}
use Rattle.std.proofs.lemmas.Grind.{pow_more}
use Rattle.std.proofs.lemmas.List.{map-append}
use Rattle.std.proofs.Math.Nat.{pow-le-pow_right}
use Rattle.common_values.specs.Sets.{contains, union, is_subset, is_same, byte_of, bit_of, set_size, has_byte, assigned, weight_if, low_bits, set_byte, set_bytes}
use Rattle.common_values.specs.SetLaws.{SameElements, ElementLaws, SubsetLaws, ByteLaws}

-- ---- elements

or-more : (x y z : Bool) → (x || (y || z)) ≡ (x || y || z)
or-more true y z = refl
or-more false y z = refl

contains-append : (a b : List ℕ) (e : ℕ) → contains (a ++ b) e ≡ (contains a e || contains b e)
contains-append [] b e = refl
contains-append (x ∷ a) b e = ap (λ v. eqb x e || v) (contains-append a b e) ∙ or-more (eqb x e) (contains a e) (contains b e)

and-false : (x : Bool) → (x && false) ≡ false
and-false true = refl
and-false false = refl

filter_by : (p : ℕ → Bool) (x e : ℕ) (s : List ℕ) (v w : Bool) → p x ≡ v → eqb x e ≡ w → contains (filter p s) e ≡ (contains s e && p e)
    → contains (cond v (x ∷ filter p s) (filter p s)) e ≡ ((w || contains s e) && p e)
filter_by p x e s true true pv q ih =
    let same : p e ≡ true = sym (ap p (eqb-true x e q)) ∙ pv in
    rw (q, same) refl
filter_by p x e s true false pv q ih = rw q ih
filter_by p x e s false true pv q ih =
    let same : p e ≡ false = sym (ap p (eqb-true x e q)) ∙ pv in
    ih ∙ ap (λ v. contains s e && v) same ∙ and-false (contains s e) ∙ sym same
filter_by p x e s false false pv q ih = ih

contains-filter : (p : ℕ → Bool) (s : List ℕ) (e : ℕ) → contains (filter p s) e ≡ (contains s e && p e)
contains-filter p [] e = refl
contains-filter p (x ∷ s) e = filter_by p x e s (p x) (eqb x e) refl refl (contains-filter p s e)

or-rest : (x y : Bool) → (x || (y && not x)) ≡ (x || y)
or-rest true y = refl
or-rest false true = refl
or-rest false false = refl

contains-union : (a b : List ℕ) (e : ℕ) → contains (union a b) e ≡ (contains a e || contains b e)
contains-union a b e =
    contains-append a (filter (λ x. not (contains a x)) b) e
    ∙ ap (λ v. contains a e || v) (contains-filter (λ x. not (contains a x)) b e)
    ∙ or-rest (contains a e) (contains b e)

range_step : (low n e : ℕ) → (eqb low e || (leb (low + 1) e && ltb e (low + 1 + n))) ≡ (leb low e && ltb e (low + suc n))
range_step low n e = grind (arith, nat_tests)

range_none : (low e : ℕ) → false ≡ (leb low e && ltb e (low + 0))
range_none low e = grind (arith, nat_tests)

contains-range : (low n e : ℕ) → contains (range_with_len low n) e ≡ (leb low e && ltb e (low + n))
contains-range low zero e = range_none low e
contains-range low (suc n) e = ap (λ v. eqb low e || v) (contains-range (low + 1) n e) ∙ range_step low n e

range_ends : (low high e : ℕ) → (leb low e && ltb e (low + (high + 1 - low))) ≡ (leb low e && leb e high)
range_ends low high e = grind (arith, nat_tests)

nothing : (low high n : ℕ) → n ≡ high + 1 - low → high < low → range_with_len low n ≡ []
nothing low high n e h = let z : n ≡ 0 = omega arith in rw z refl

pub element_laws : ElementLaws
element_laws = record {
  union = contains-union;
  difference = λ a b e. contains-filter (λ x. not (contains b x)) a e;
  intersection = λ a b e. contains-filter (λ x. contains b x) a e;
  between = λ low high e. contains-range low (high + 1 - low) e ∙ range_ends low high e;
  nothing = λ low high h. nothing low high (high + 1 - low) refl h;
  assigned = λ low high e set. contains-filter (λ x. has_byte low high x) set e;
}

-- ---- subsets

subset_at : (x e : ℕ) (a b : List ℕ) (v : Bool) → eqb x e ≡ v → contains b x ≡ true → (contains a e ≡ true → contains b e ≡ true) → (v || contains a e) ≡ true → contains b e ≡ true
subset_at x e a b true q here ih h = subst (λ (n : ℕ). contains b n ≡ true) (eqb-true x e q) here
subset_at x e a b false q here ih h = ih h

below : (a b : List ℕ) → is_subset a b ≡ true → (e : ℕ) → contains a e ≡ true → contains b e ≡ true
below [] b h e i = absurd cc
below (x ∷ a) b h e i =
    let parts = and_parts (contains b x) (is_subset a b) h in
    subset_at x e a b (eqb x e) refl parts.0 (below a b parts.1 e) i

or-right : (x y : Bool) → y ≡ true → (x || y) ≡ true
or-right true y h = refl
or-right false y h = h

from_elements : (a b : List ℕ) → ((e : ℕ) → contains a e ≡ true → contains b e ≡ true) → is_subset a b ≡ true
from_elements [] b h = refl
from_elements (x ∷ a) b h =
    let self : eqb x x ≡ true = eq-eqb x x refl in
    let here : contains b x ≡ true = h x (rw self refl) in
    and_from (contains b x) (is_subset a b) here (from_elements a b (λ e i. h e (or-right (eqb x e) (contains a e) i)))

both_ways : (x y : Bool) → (x ≡ true → y ≡ true) → (y ≡ true → x ≡ true) → x ≡ y
both_ways true y f g = sym (f refl)
both_ways false true f g = g refl
both_ways false false f g = refl

same : (a b : List ℕ) → is_same a b ≡ true → SameElements a b
same a b h =
    let parts = and_parts (is_subset a b) (is_subset b a) h in
    λ e. both_ways (contains a e) (contains b e) (below a b parts.0 e) (below b a parts.1 e)

from_same : (a b : List ℕ) → SameElements a b → is_same a b ≡ true
from_same a b h = and_from (is_subset a b) (is_subset b a) (from_elements a b (λ e i. sym (h e) ∙ i)) (from_elements b a (λ e i. h e ∙ i))

pub subset_laws : SubsetLaws
subset_laws = record { below = below; from_elements = from_elements; same = same; from_same = from_same }

-- ---- bytes

weight-if : (v : Bool) (n : ℕ) → weight_if v n ≡ cond v 1 0 * 2 ^ n
weight-if true n = omega arith
weight-if false n = omega arith

weight-small : (v : Bool) → cond v 1 0 ≤ 1
weight-small true = omega arith
weight-small false = omega arith

weight-mod : (v : Bool) → cond v 1 0 % 2 ≡ cond v 1 0
weight-mod true = refl
weight-mod false = refl

pub bits-step : (set : List ℕ) (byte n : ℕ) → low_bits set byte (suc n) ≡ cond (contains set (8 * byte + n)) 1 0 * 2 ^ n + low_bits set byte n
unfolding low_bits
bits-step set byte n = let w = weight-if (contains set (8 * byte + n)) n in omega arith

pub bits-below : (set : List ℕ) (byte n : ℕ) → low_bits set byte n < 2 ^ n
unfolding low_bits
bits-below set byte zero = omega arith
bits-below set byte (suc n) =
    let small = bits-below set byte n in
    let w = weight-if (contains set (8 * byte + n)) n in
    let one = mul-le (cond (contains set (8 * byte + n)) 1 0) (2 ^ n) 1 (2 ^ n) (weight-small (contains set (8 * byte + n))) (omega arith) in
    let double : 2 ^ suc n ≡ 2 ^ n * 2 = rw add-one at (pow_more 2 n) in
    omega arith

bits-agree : (a b : List ℕ) (byte n : ℕ) → ((i : ℕ) → i < n → contains a (8 * byte + i) ≡ contains b (8 * byte + i)) → low_bits a byte n ≡ low_bits b byte n
unfolding low_bits
bits-agree a b byte zero h = refl
bits-agree a b byte (suc n) h = rw (bits-agree a b byte n (λ i l. h i (omega arith)), h n (omega arith)) refl

-- the bit at n, and those below
top_bit : (set : List ℕ) (byte n : ℕ) → low_bits set byte (suc n) / 2 ^ n % 2 ≡ cond (contains set (8 * byte + n)) 1 0
top_bit set byte n =
    let small = bits-below set byte n in
    rw (bits-step set byte n, shr_high (cond (contains set (8 * byte + n)) 1 0) n (low_bits set byte n) small) (weight-mod (contains set (8 * byte + n)))

even : (m q : ℕ) → (m * 2 + q) % 2 ≡ q % 2
even m q = omega arith

-- a bit above does not show in those below
lower_bit : (w n k i low : ℕ) → n ≡ k + 1 + i → (w * 2 ^ n + low) / 2 ^ i % 2 ≡ low / 2 ^ i % 2
lower_bit w n k i low e =
    let some = pow_pos i in
    let rest : low % 2 ^ i < 2 ^ i = omega arith in
    let split = shr_split low i in
    let power : 2 ^ n ≡ 2 ^ k * 2 * 2 ^ i = rw e (pow-add 2 (k + 1) i ∙ ap (λ p. p * 2 ^ i) (pow_more 2 k)) in
    let sum : w * 2 ^ n + low ≡ (w * 2 ^ k * 2 + low / 2 ^ i) * 2 ^ i + low % 2 ^ i = rw power (grind (arith, split)) in
    rw (sum, shr_high (w * 2 ^ k * 2 + low / 2 ^ i) i (low % 2 ^ i) rest) (even (w * 2 ^ k) (low / 2 ^ i))

bit-of : (set : List ℕ) (byte n i : ℕ) → i < n → low_bits set byte n / 2 ^ i % 2 ≡ cond (contains set (8 * byte + i)) 1 0
bit-of set byte zero i h = absurd (omega arith)
bit-of set byte (suc n) i h =
    elim (cases_eq i n) [
      | inl e ↦ subst (λ (k : ℕ). low_bits set byte (suc n) / 2 ^ k % 2 ≡ cond (contains set (8 * byte + k)) 1 0) (sym e) (top_bit set byte n)
      | inr d ↦
          let below : i < n = omega arith in
          rw (bits-step set byte n) (lower_bit (cond (contains set (8 * byte + n)) 1 0) n (n - i - 1) i (low_bits set byte n) (omega arith) ∙ bit-of set byte n i below)
    ]

element_bit : (set : List ℕ) (e : ℕ) → set_byte set (byte_of e) / 2 ^ bit_of e % 2 ≡ cond (contains set e) 1 0
element_bit set e =
    let whole : 8 * (e / 8) + e % 8 ≡ e = omega arith in
    bit-of set (e / 8) 8 (e % 8) (omega arith) ∙ ap (λ k. cond (contains set k) 1 0) whole

map_range-at : (f : ℕ → ℕ) (a n k : ℕ) → k < n → get_or (map f (range_with_len a n)) k 0 ≡ f (a + k)
map_range-at f a zero k h = absurd (omega arith)
map_range-at f a (suc n) zero h = ap f (omega arith)
map_range-at f a (suc n) (suc k) h = map_range-at f (a + 1) n k (omega arith) ∙ ap f (omega arith)

map_range-agree : (f g : ℕ → ℕ) (a n : ℕ) → ((k : ℕ) → a ≤ k → k < a + n → f k ≡ g k) → map f (range_with_len a n) ≡ map g (range_with_len a n)
map_range-agree f g a zero h = refl
map_range-agree f g a (suc n) h =
    rw (h a (omega arith) (omega arith), map_range-agree f g (a + 1) n (λ k l m. h k (omega arith) (omega arith))) refl

at : (low high e : ℕ) (set : List ℕ) → byte_of low ≤ byte_of e → byte_of e ≤ byte_of high → get_or (set_bytes low high set) (byte_of e - byte_of low) 0 ≡ set_byte set (byte_of e)
at low high e set l h =
    map_range-at (set_byte set) (byte_of low) (set_size low high) (byte_of e - byte_of low) (omega arith) ∙ ap (set_byte set) (omega arith)

same_bytes : (low high : ℕ) (a b : List ℕ) → SameElements a b → set_bytes low high a ≡ set_bytes low high b
same_bytes low high a b h =
    map_range-agree (set_byte a) (set_byte b) (byte_of low) (set_size low high) (λ k l m. bits-agree a b k 8 (λ i s. h (8 * k + i)))

kept_byte : (low high k i : ℕ) → byte_of low ≤ k → k ≤ byte_of high → i < 8 → has_byte low high (8 * k + i) ≡ true
kept_byte low high k i l h s =
    let is : (8 * k + i) / 8 ≡ k = omega arith in
    rw is (and_from (leb (low / 8) k) (leb k (high / 8)) (le-leb (low / 8) k l) (le-leb k (high / 8) h))

and-true : (x y : Bool) → y ≡ true → (x && y) ≡ x
and-true true y h = h
and-true false y h = refl

assigned_bytes : (low high : ℕ) (set : List ℕ) → low ≤ high → set_bytes low high (assigned low high set) ≡ set_bytes low high set
assigned_bytes low high set o =
    let bounds : low / 8 ≤ high / 8 = omega arith in
    map_range-agree (set_byte (assigned low high set)) (set_byte set) (byte_of low) (set_size low high) (λ k l m. bits-agree (assigned low high set) set k 8 (λ i s.
    contains-filter (λ x. has_byte low high x) set (8 * k + i)
    ∙ and-true (contains set (8 * k + i)) (has_byte low high (8 * k + i)) (kept_byte low high k i l (omega arith) s)))

pub byte_laws : ByteLaws
byte_laws = record {
  small = λ set byte. bits-below set byte 8;
  bit = element_bit;
  at = at;
  same = same_bytes;
  assigned = assigned_bytes;
}

-- ---- one more

pub range_push : (a n : ℕ) → range_with_len a (suc n) ≡ range_with_len a n ++ (a + n) ∷ []
range_push a zero = ap (λ (m : ℕ). m ∷ []) (omega arith)
range_push a (suc n) =
    let e : a + 1 + n ≡ a + suc n = omega arith in
    ap (λ (l : List ℕ). a ∷ l) (range_push (a + 1) n ∙ ap (λ (m : ℕ). range_with_len (a + 1) n ++ m ∷ []) e)

pub range_next : (a n : ℕ) → range_with_len a n ++ (a + n) ∷ [] ≡ range_with_len a (n + 1)
range_next a n = rw add-one (sym (range_push a n))

pub map_range_next : (f : ℕ → ℕ) (a n : ℕ) → map f (range_with_len a n) ++ f (a + n) ∷ [] ≡ map f (range_with_len a (n + 1))
map_range_next f a n = sym (map-append f (range_with_len a n) ((a + n) ∷ [])) ∙ ap (map f) (range_next a n)

pub bits-next : (set : List ℕ) (byte n : ℕ) → low_bits set byte n + weight_if (contains set (8 * byte + n)) n ≡ low_bits set byte (n + 1)
unfolding low_bits
bits-next set byte n = rw add-one refl

pub bits-none : (set : List ℕ) (byte : ℕ) → 0 ≡ low_bits set byte 0
unfolding low_bits
bits-none set byte = refl

pub bits-fit : (set : List ℕ) (byte n : ℕ) → n < 8 → low_bits set byte n + weight_if (contains set (8 * byte + n)) n < 256
bits-fit set byte n h =
    let e = bits-next set byte n in
    let b = bits-below set byte (n + 1) in
    let more : n + 1 ≤ 8 = omega arith in
    let p : 2 ^ (n + 1) ≤ 2 ^ 8 = pow-le-pow_right {n = 2} (omega arith) more in
    omega arith
