-- What relations of sets say of their bytes.
use Rattle.std.proofs.Common.{◌≡◌, ℕ, zero, suc, ◌+◌, ◌*◌, ◌<◌, ◌≤◌, Bool, true, false, cond, ◌&&◌, List, refl, sym, ap, ◌∙◌, arith, ⊎_elim, eqb-true, eq-eqb}
use Rattle.std.specs.Prelude.{bit_and, min, ◌==◌}
use Rattle.std.specs.Int.{bit_at}
use Rattle.std.proofs.lemmas.Bool.{cases_eq}
use Rattle.std.proofs.lemmas.Nat.{and_le_l}
use Rattle.std.proofs.lemmas.Nat.Bits.{bit_at_and, same_from_bits_below}
use Rattle.common_values.specs.Sets.{contains, is_subset, is_same, byte_of, bit_of, set_byte}
use Rattle.common_values.proofs.SetLemmas.{subset_laws, byte_laws}

pub byte-small : (set : List ℕ) (k : ℕ) → set_byte set k < 256
byte-small set k = byte_laws.small set k

-- a bit of a byte tells of an element
bit-is : (set : List ℕ) (k i : ℕ) → i < 8 → bit_at (set_byte set k) i ≡ cond (contains set (8 * k + i)) 1 0
bit-is set k i h =
    let e1 : byte_of (8 * k + i) ≡ k = omega (arith, h) in
    let e2 : bit_of (8 * k + i) ≡ i = omega (arith, h) in
    sym (ap (λ b. bit_at (set_byte set b) i) e1) ∙ sym (ap (bit_at (set_byte set (byte_of (8 * k + i)))) e2) ∙ byte_laws.bit set (8 * k + i)

-- ---- tests of all bytes

-- so many from the i-th on pass
abbrev pub all_pass : (ℕ → Bool) → ℕ → ℕ → Bool
all_pass t i zero = true
all_pass t i (suc n) = t i && all_pass t (suc i) n

both : (p q : Bool) → (p && q) ≡ true → (p ≡ true) × (q ≡ true)
both true q h = (refl, h)
both false q h = absurd cc

from-both : (p q : Bool) → p ≡ true → q ≡ true → (p && q) ≡ true
from-both true q h g = g
from-both false q h g = absurd cc

pass-at : (t : ℕ → Bool) (i n k : ℕ) → all_pass t i n ≡ true → i ≤ k → k < i + n → t k ≡ true
pass-at t i zero k h p q = absurd (omega (arith, p, q))
pass-at t i (suc n) k h p q =
    let parts = both (t i) (all_pass t (suc i) n) h in
    ⊎_elim (λ (e : k ≡ i). ap t e ∙ parts.0) (λ ne. pass-at t (suc i) n k parts.1 (omega (arith, p, ne)) (omega (arith, q))) (cases_eq k i)

pass-from : (t : ℕ → Bool) (i n : ℕ) → ((k : ℕ) → k < i + n → t k ≡ true) → all_pass t i n ≡ true
pass-from t i zero h = refl
pass-from t i (suc n) h = from-both (t i) (all_pass t (suc i) n) (h i (omega arith)) (pass-from t (suc i) n (λ k p. h k (omega (arith, p))))

-- two tests that come true together are the same
same-tests : (p q : Bool) → (p ≡ true → q ≡ true) → (q ≡ true → p ≡ true) → p ≡ q
same-tests true true f g = refl
same-tests true false f g = let h = f refl in absurd cc
same-tests false true f g = let h = g refl in absurd cc
same-tests false false f g = refl

-- ---- inclusion

kept-bit : (p q : Bool) → min (cond p 1 0) (cond q 1 0) ≡ cond p 1 0 → p ≡ true → q ≡ true
kept-bit true true e h = refl
kept-bit true false e h = absurd (omega (arith, e))
kept-bit false q e h = absurd cc

bit-kept : (p q : Bool) → (p ≡ true → q ≡ true) → min (cond p 1 0) (cond q 1 0) ≡ cond p 1 0
bit-kept true true f = refl
bit-kept true false f = let h = f refl in absurd cc
bit-kept false true f = refl
bit-kept false false f = refl

abbrev pub kept_byte : List ℕ → List ℕ → ℕ → Bool
kept_byte a b k = bit_and (set_byte a k) (set_byte b k) == set_byte a k

-- where a byte keeps all of its bits, the other set has the elements
element-kept : (a b : List ℕ) (e : ℕ) → kept_byte a b (byte_of e) ≡ true → contains a e ≡ true → contains b e ≡ true
element-kept a b e h is =
    let k = byte_of e in
    let i = bit_of e in
    let x = set_byte a k in
    let y = set_byte b k in
    let same : bit_and x y ≡ x = eqb-true (bit_and x y) x h in
    let bits : min (bit_at x i) (bit_at y i) ≡ bit_at x i = sym (bit_at_and x y i) ∙ ap (λ n. bit_at n i) same in
    kept-bit (contains a e) (contains b e) (sym (ap (λ n. min n (cond (contains b e) 1 0)) (byte_laws.bit a e)) ∙ sym (ap (min (bit_at x i)) (byte_laws.bit b e)) ∙ bits ∙ byte_laws.bit a e) is

byte-kept : (a b : List ℕ) (k : ℕ) → ((e : ℕ) → contains a e ≡ true → contains b e ≡ true) → kept_byte a b k ≡ true
byte-kept a b k f =
    let x = set_byte a k in
    let y = set_byte b k in
    let s = byte-small a k in
    let l = and_le_l x y in
    eq-eqb (bit_and x y) x (same_from_bits_below 8 _ _ (omega (arith, s, l)) s (λ i h.
    let e = 8 * k + i in
    bit_at_and x y i ∙ ap (λ n. min n (bit_at y i)) (bit-is a k i h) ∙ ap (min (cond (contains a e) 1 0)) (bit-is b k i h) ∙ bit-kept (contains a e) (contains b e) (f e) ∙ sym (bit-is a k i h)))

pub subset-is : (a b : List ℕ) → ((e : ℕ) → contains a e ≡ true → e < 256) → all_pass (kept_byte a b) 0 32 ≡ is_subset a b
subset-is a b small = same-tests (all_pass (kept_byte a b) 0 32) (is_subset a b)
    (λ h. subset_laws.from_elements a b (λ e is. element-kept a b e (pass-at (kept_byte a b) 0 32 (byte_of e) h (omega arith) (let l = small e is in omega (arith, l))) is))
    (λ h. pass-from (kept_byte a b) 0 32 (λ k p. byte-kept a b k (subset_laws.below a b h)))

-- ---- equality

abbrev pub same_byte : List ℕ → List ℕ → ℕ → Bool
same_byte a b k = set_byte a k == set_byte b k

same-bit : (p q : Bool) → cond {A = ℕ} p 1 0 ≡ cond q 1 0 → p ≡ true → q ≡ true
same-bit true true e h = refl
same-bit true false e h = absurd (omega (arith, e))
same-bit false q e h = absurd cc

element-same : (a b : List ℕ) (e : ℕ) → same_byte a b (byte_of e) ≡ true → contains a e ≡ true → contains b e ≡ true
element-same a b e h is =
    let k = byte_of e in
    let same : set_byte a k ≡ set_byte b k = eqb-true (set_byte a k) (set_byte b k) h in
    same-bit (contains a e) (contains b e) (sym (byte_laws.bit a e) ∙ ap (λ n. bit_at n (bit_of e)) same ∙ byte_laws.bit b e) is

byte-same : (a b : List ℕ) (k : ℕ) → ((e : ℕ) → contains a e ≡ contains b e) → same_byte a b k ≡ true
byte-same a b k f = eq-eqb (set_byte a k) (set_byte b k) (same_from_bits_below 8 _ _ (byte-small a k) (byte-small b k) (λ i h.
    bit-is a k i h ∙ ap (λ x. cond x 1 0) (f (8 * k + i)) ∙ sym (bit-is b k i h)))

turned : (x y : ℕ) → (x == y) ≡ true → (y == x) ≡ true
turned x y h = eq-eqb y x (sym (eqb-true x y h))

pub same-is : (a b : List ℕ) → ((e : ℕ) → contains a e ≡ true → e < 256) → ((e : ℕ) → contains b e ≡ true → e < 256) → all_pass (same_byte a b) 0 32 ≡ is_same a b
same-is a b small less = same-tests (all_pass (same_byte a b) 0 32) (is_same a b)
    (λ h. subset_laws.from_same a b (λ e. same-tests (contains a e) (contains b e)
    (λ is. element-same a b e (pass-at (same_byte a b) 0 32 (byte_of e) h (omega arith) (let l = small e is in omega (arith, l))) is)
    (λ is. element-same b a e (turned (set_byte a (byte_of e)) (set_byte b (byte_of e)) (pass-at (same_byte a b) 0 32 (byte_of e) h (omega arith) (let l = less e is in omega (arith, l)))) is)))
    (λ h. pass-from (same_byte a b) 0 32 (λ k p. byte-same a b k (subset_laws.same a b h)))
