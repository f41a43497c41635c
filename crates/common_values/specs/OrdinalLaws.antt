-- What holds of the integer types.
use Rattle.std.specs.Prelude.{◌≡◌, ◌≢◌, ◌≤◌, ℤ, pos, ◌+ℤ◌, ◌*ℤ◌}
use Rattle.std.specs.Int.RustNames.{int_rem}
use Rattle.common_values.specs.integers.Words.{bits, word_of}
use Rattle.common_values.specs.declared.ordinals.IntegerType.{IntegerType}
use Rattle.common_values.specs.Ordinals.{width_of, IsValueOf, kept, remainder, shift_count, left_shift, right_shift}

pub record StorageLaws (type : IntegerType) : Type 0 where
  pub within : (z : ℤ) → IsValueOf type (kept type z)
  pub same : (z : ℤ) → IsValueOf type z → kept type z ≡ z
  -- the low bytes are those of the number
  pub low_bytes : (z : ℤ) → word_of (width_of type) (kept type z) ≡ word_of (width_of type) z
  -- sums and products may be wrapped on the way
  pub sum : (a b : ℤ) → kept type (kept type a +ℤ kept type b) ≡ kept type (a +ℤ b)
  pub product : (a b : ℤ) → kept type (kept type a *ℤ kept type b) ≡ kept type (a *ℤ b)

pub record OperatorLaws (type : IntegerType) : Type 0 where
  -- a count of the width or more leaves nothing
  pub left_out : (z count : ℤ) → bits (width_of type) ≤ shift_count count → left_shift type z count ≡ pos 0
  pub right_out : (z count : ℤ) → bits (width_of type) ≤ shift_count count → right_shift type z count ≡ pos 0
  -- the remainder has the sign of a
  pub remainder : (a b : ℤ) → IsValueOf type a → IsValueOf type b → b ≢ pos 0 → remainder type a b ≡ int_rem a b
