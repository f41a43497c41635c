-- The laws of words, at each width.
use Rattle.std.specs.Prelude.{◌≡◌, ℕ, ◌+◌, ◌*◌, ◌^◌, ◌<◌, ◌≤◌, ℤ, ◌+ℤ◌, ◌-ℤ◌, ◌*ℤ◌}
use Rattle.std.specs.Int.{int_shr}
use Rattle.std.specs.Int.RustNames.{FitsSigned, int_div, int_rem}
use Rattle.common_values.specs.integers.Words.{Width, bits, IsWord, wrap, word_of, cast_signed, low_byte, high_byte, word_from_bytes, wrapping_add, wrapping_sub, wrapping_mul, high_product, signed_quotient, signed_remainder, shifted_left, shifted_right, shifted_right_signed}

-- `wrap` gives words, leaves words alone, and may be done late or early
pub record WrapLaws (w : Width) : Type 0 where
  pub below : (n : ℕ) → IsWord w (wrap w n)
  pub word : (n : ℕ) → IsWord w n → wrap w n ≡ n
  pub add : (a b : ℕ) → wrap w (wrap w a + wrap w b) ≡ wrap w (a + b)
  pub mul : (a b : ℕ) → wrap w (wrap w a * wrap w b) ≡ wrap w (a * b)

-- a word and the signed number that it stands for
pub record SignedLaws (w : Width) : Type 0 where
  pub word : (z : ℤ) → IsWord w (word_of w z)
  pub there : (z : ℤ) → FitsSigned w z → cast_signed w (word_of w z) ≡ z
  pub back : (n : ℕ) → IsWord w n → word_of w (cast_signed w n) ≡ n

-- sums, differences and products of words are those of the signed numbers too
pub record ArithmeticLaws (w : Width) : Type 0 where
  pub add : (x y : ℕ) → IsWord w x → IsWord w y → wrapping_add w x y ≡ word_of w (cast_signed w x +ℤ cast_signed w y)
  pub sub : (x y : ℕ) → IsWord w x → IsWord w y → wrapping_sub w x y ≡ word_of w (cast_signed w x -ℤ cast_signed w y)
  pub mul : (x y : ℕ) → IsWord w x → IsWord w y → wrapping_mul w x y ≡ word_of w (cast_signed w x *ℤ cast_signed w y)
  pub sub_add : (x y : ℕ) → IsWord w x → IsWord w y → wrapping_add w (wrapping_sub w x y) y ≡ x
  pub product : (x y : ℕ) → high_product w x y * 2 ^ bits w + wrapping_mul w x y ≡ x * y

-- quotient and remainder are words, stand for those of the signed numbers, and make up x again
pub record DivisionLaws (w : Width) : Type 0 where
  pub quotient : (x y : ℕ) → IsWord w x → IsWord w (signed_quotient w x y)
  pub remainder : (x y : ℕ) → IsWord w x → IsWord w (signed_remainder w x y)
  pub quotient_signed : (x y : ℕ) → FitsSigned w (int_div (cast_signed w x) (cast_signed w y)) → cast_signed w (signed_quotient w x y) ≡ int_div (cast_signed w x) (cast_signed w y)
  pub remainder_signed : (x y : ℕ) → IsWord w x → cast_signed w (signed_remainder w x y) ≡ int_rem (cast_signed w x) (cast_signed w y)
  pub whole : (x y : ℕ) → IsWord w x → IsWord w y → wrapping_add w (wrapping_mul w (signed_quotient w x y) y) (signed_remainder w x y) ≡ x

-- the two bytes of a 16-bit word
pub record ByteLaws : Type 0 where
  pub low : (n : ℕ) → low_byte n < 256
  pub high : (n : ℕ) → high_byte n < 256
  pub word : (a b : ℕ) → a < 256 → b < 256 → word_from_bytes a b < 65536
  pub whole : (n : ℕ) → n < 65536 → word_from_bytes (low_byte n) (high_byte n) ≡ n
  pub low_of : (a b : ℕ) → a < 256 → b < 256 → low_byte (word_from_bytes a b) ≡ a
  pub high_of : (a b : ℕ) → a < 256 → b < 256 → high_byte (word_from_bytes a b) ≡ b

-- shifts one after another add up, and a whole width of them leaves nothing
pub record ShiftLaws (w : Width) : Type 0 where
  pub left : (x j k : ℕ) → shifted_left w (shifted_left w x j) k ≡ shifted_left w x (j + k)
  pub left_out : (x k : ℕ) → bits w ≤ k → shifted_left w x k ≡ 0
  pub right : (x j k : ℕ) → shifted_right (shifted_right x j) k ≡ shifted_right x (j + k)
  pub right_out : (x k : ℕ) → IsWord w x → bits w ≤ k → shifted_right x k ≡ 0
  pub signed : (x k : ℕ) → IsWord w x → cast_signed w (shifted_right_signed w x k) ≡ int_shr (cast_signed w x) k
