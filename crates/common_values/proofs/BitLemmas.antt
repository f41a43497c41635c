-- The bits of integers.
use Rattle.std.proofs.Common.{◌≡◌, ℕ, ◌+◌, ◌-◌, ◌*◌, ◌/◌, ◌%◌, ◌^◌, ◌<◌, sym, ap, ◌∙◌, arith}
use Rattle.std.proofs.Math.IntN.{ℤ, pos, negsuc, ◌-ℤ◌}
use Rattle.std.specs.Prelude.{bit_and, bit_or, bit_xor}
use Rattle.std.specs.Int.{bit_at, bit_not}
use Rattle.std.proofs.lemmas.Int.{ints}
use Rattle.std.proofs.lemmas.Nat.{pow_pos}
use Rattle.std.proofs.lemmas.Nat.Bits.{bit_at_and, bit_at_or, bit_at_xor, bit_at_not, bit_at_cat_low}
use Rattle.common_values.specs.integers.Words.{Width, bits, word_of, wrap}
use Rattle.common_values.proofs.integers.WordLaws.{word_of-word}
use Rattle.common_values.specs.declared.ordinals.IntegerType.{IntegerType}
use Rattle.common_values.specs.Ordinals.{width_of, kept}
use Rattle.common_values.specs.Bits.{stored, complement}
use Rattle.common_values.specs.BitLaws.{BitLaws, ByteLaws}
use Rattle.common_values.proofs.OrdinalLemmas.{storage_laws}

-- the words of a number of so many bits are its bits
bit_at-wrap : (w : Width) (n i : ℕ) → i < bits w → bit_at (wrap w n) i ≡ bit_at n i
bit_at-wrap w n i h =
    let d = 2 ^ bits w in
    let some = pow_pos (bits w) in
    let whole : n / d * d + n % d ≡ n = omega (arith, some) in
    sym (bit_at_cat_low (n / d) (bits w) (n % d) i h) ∙ ap (λ k. bit_at k i) whole

stored-kept : (type : IntegerType) (n i : ℕ) → i < bits (width_of type) → bit_at (stored type (kept type (pos n))) i ≡ bit_at n i
stored-kept type n i h = ap (λ k. bit_at k i) ((storage_laws type).low_bytes (pos n)) ∙ bit_at-wrap (width_of type) n i h

word_of-complement : (w : Width) (z : ℤ) → word_of w (negsuc 0 -ℤ z) ≡ bit_not w (word_of w z)
word_of-complement w (pos n) =
    let e : negsuc 0 -ℤ pos n ≡ negsuc n = omega (arith, ints) in
    ap (word_of w) e
word_of-complement w (negsuc n) =
    let e : negsuc 0 -ℤ negsuc n ≡ pos n = omega (arith, ints) in
    let small = word_of-word w (pos n) in
    ap (word_of w) e ∙ omega (arith, small)

not-bit : (type : IntegerType) (a : ℤ) (i : ℕ) → i < bits (width_of type) → bit_at (stored type (complement type a)) i ≡ 1 - bit_at (stored type a) i
not-bit type a i h =
    ap (λ k. bit_at k i) ((storage_laws type).low_bytes (negsuc 0 -ℤ a) ∙ word_of-complement (width_of type) a)
    ∙ bit_at_not (width_of type) (stored type a) i (word_of-word (width_of type) a) h

pub bit_laws : (type : IntegerType) → BitLaws type
bit_laws type = record {
  both = λ a b i h. stored-kept type (bit_and (stored type a) (stored type b)) i h ∙ bit_at_and (stored type a) (stored type b) i;
  either = λ a b i h. stored-kept type (bit_or (stored type a) (stored type b)) i h ∙ bit_at_or (stored type a) (stored type b) i;
  one = λ a b i h. stored-kept type (bit_xor (stored type a) (stored type b)) i h ∙ bit_at_xor (stored type a) (stored type b) i;
  other = not-bit type;
  negated = λ a h. (storage_laws type).same (negsuc 0 -ℤ a) h;
  magnitude = λ a h. (storage_laws type).same _ h;
  square = λ a h. (storage_laws type).same _ h;
}

-- ---- bytes

pub byte_laws : ByteLaws
byte_laws = record {
  whole = λ n h. omega arith;
  high = λ n h. omega arith;
  low = λ n h. omega arith;
  twice = λ n h. ap pos (omega arith);
}
