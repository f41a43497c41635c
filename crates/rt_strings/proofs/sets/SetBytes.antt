-- What the operators do to the bytes of sets.
use Rattle.std.proofs.Common.{◌≡◌, ℕ, zero, suc, ◌+◌, ◌*◌, ◌/◌, ◌%◌, ◌^◌, ◌<◌, ◌≤◌, Bool, true, false, not, cond, ◌&&◌, ◌||◌, List, refl, sym, ap, subst, ◌∙◌, arith}
use Rattle.std.specs.Prelude.{bit_and, bit_or, bit_xor, min, max}
use Rattle.std.specs.Int.{bit_at}
use Rattle.std.proofs.lemmas.Nat.{and_le_l, or_lt, xor_lt}
use Rattle.std.proofs.lemmas.Nat.Bits.{bit_at_and, bit_at_or, bit_at_xor, same_from_bits_below}
use Rattle.common_values.specs.Sets.{contains, union, difference, intersection, byte_of, bit_of, set_byte}
use Rattle.common_values.proofs.SetLemmas.{element_laws, byte_laws}

pub byte-small : (set : List ℕ) (k : ℕ) → set_byte set k < 256
byte-small set k = byte_laws.small set k

-- a bit of a byte tells of an element
pub bit-is : (set : List ℕ) (k i : ℕ) → i < 8 → bit_at (set_byte set k) i ≡ cond (contains set (8 * k + i)) 1 0
bit-is set k i h =
    let e1 : byte_of (8 * k + i) ≡ k = omega (arith, h) in
    let e2 : bit_of (8 * k + i) ≡ i = omega (arith, h) in
    sym (ap (λ b. bit_at (set_byte set b) i) e1) ∙ sym (ap (bit_at (set_byte set (byte_of (8 * k + i)))) e2) ∙ byte_laws.bit set (8 * k + i)

or-bits : (p q : Bool) → max (cond p 1 0) (cond q 1 0) ≡ cond (p || q) 1 0
or-bits true true = refl
or-bits true false = refl
or-bits false true = refl
or-bits false false = refl

and-bits : (p q : Bool) → min (cond p 1 0) (cond q 1 0) ≡ cond (p && q) 1 0
and-bits true true = refl
and-bits true false = refl
and-bits false true = refl
and-bits false false = refl

not-bits : (p q : Bool) → min (cond p 1 0) ((cond q 1 0 + 1) % 2) ≡ cond (p && not q) 1 0
not-bits true true = refl
not-bits true false = refl
not-bits false true = refl
not-bits false false = refl

all-ones : (i : ℕ) → i < 8 → bit_at 255 i ≡ 1
all-ones zero h = refl
all-ones (suc zero) h = refl
all-ones (suc (suc zero)) h = refl
all-ones (suc (suc (suc zero))) h = refl
all-ones (suc (suc (suc (suc zero)))) h = refl
all-ones (suc (suc (suc (suc (suc zero))))) h = refl
all-ones (suc (suc (suc (suc (suc (suc zero)))))) h = refl
all-ones (suc (suc (suc (suc (suc (suc (suc zero))))))) h = refl
all-ones (suc (suc (suc (suc (suc (suc (suc (suc i)))))))) h = absurd (omega (arith, h))

pub union-byte : (a b : List ℕ) (k : ℕ) → bit_or (set_byte a k) (set_byte b k) ≡ set_byte (union a b) k
union-byte a b k = same_from_bits_below 8 _ _ (or_lt 8 (set_byte a k) (set_byte b k) (byte-small a k) (byte-small b k)) (byte-small (union a b) k) (λ i h.
    let e = 8 * k + i in
    bit_at_or (set_byte a k) (set_byte b k) i
    ∙ ap (λ x. max x (bit_at (set_byte b k) i)) (bit-is a k i h) ∙ ap (max (cond (contains a e) 1 0)) (bit-is b k i h)
    ∙ or-bits (contains a e) (contains b e)
    ∙ ap (λ x. cond x 1 0) (sym (element_laws.union a b e)) ∙ sym (bit-is (union a b) k i h))

pub intersection-byte : (a b : List ℕ) (k : ℕ) → bit_and (set_byte a k) (set_byte b k) ≡ set_byte (intersection a b) k
intersection-byte a b k =
    let s = byte-small a k in
    let l = and_le_l (set_byte a k) (set_byte b k) in
    same_from_bits_below 8 _ _ (omega (arith, s, l)) (byte-small (intersection a b) k) (λ i h.
    let e = 8 * k + i in
    bit_at_and (set_byte a k) (set_byte b k) i
    ∙ ap (λ x. min x (bit_at (set_byte b k) i)) (bit-is a k i h) ∙ ap (min (cond (contains a e) 1 0)) (bit-is b k i h)
    ∙ and-bits (contains a e) (contains b e)
    ∙ ap (λ x. cond x 1 0) (sym (element_laws.intersection a b e)) ∙ sym (bit-is (intersection a b) k i h))

pub difference-byte : (a b : List ℕ) (k : ℕ) → bit_and (set_byte a k) (bit_xor (set_byte b k) 255) ≡ set_byte (difference a b) k
difference-byte a b k =
    let s = byte-small a k in
    let l = and_le_l (set_byte a k) (bit_xor (set_byte b k) 255) in
    same_from_bits_below 8 _ _ (omega (arith, s, l)) (byte-small (difference a b) k) (λ i h.
    let e = 8 * k + i in
    bit_at_and (set_byte a k) (bit_xor (set_byte b k) 255) i
    ∙ ap (min (bit_at (set_byte a k) i)) (bit_at_xor (set_byte b k) 255 i)
    ∙ ap (λ x. min (bit_at (set_byte a k) i) ((bit_at (set_byte b k) i + x) % 2)) (all-ones i h)
    ∙ ap (λ x. min x ((bit_at (set_byte b k) i + 1) % 2)) (bit-is a k i h) ∙ ap (λ x. min (cond (contains a e) 1 0) ((x + 1) % 2)) (bit-is b k i h)
    ∙ not-bits (contains a e) (contains b e)
    ∙ ap (λ x. cond x 1 0) (sym (element_laws.difference a b e)) ∙ sym (bit-is (difference a b) k i h))
