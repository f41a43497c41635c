-- Words of 8, 16 and 32 bits in two's complement: what registers, memory and Pascal's integers hold.
-- A word of width w is a number below `2 ^ bits w`. Read as a signed number it is `cast_signed w n`, and a signed number z is stored as `cast_unsigned w z`.
use Rattle.std.specs.Prelude.{ℕ, ◌+◌, ◌-◌, ◌*◌, ◌/◌, ◌%◌, ◌^◌, ◌<◌, Bool, ℤ, pos, negsuc}
use Rattle.std.specs.Int.{cast_unsigned, cast_signed, int_shr}
use Rattle.std.specs.Int.RustNames.{int_div, int_rem, int_lt}
use mir.Val.{bits}
pub use Rattle.std.specs.Int.{Width, w8, w16, w32, cast_signed, cast_unsigned}
pub use mir.Val.{bits}

-- n is a word
abbrev pub IsWord : Width → ℕ → Type 0
IsWord w n = n < 2 ^ bits w

-- what a word keeps of a number of any size
abbrev pub wrap : Width → ℕ → ℕ
wrap w n = n % 2 ^ bits w

-- what a word keeps of a signed number of any size
abbrev pub word_of : Width → ℤ → ℕ
word_of w (pos n) = wrap w n
word_of w (negsuc n) = 2 ^ bits w - 1 - wrap w n

-- ---- bytes

abbrev pub low_byte : ℕ → ℕ
low_byte n = n % 256

-- the second byte from below
abbrev pub high_byte : ℕ → ℕ
high_byte n = n / 256 % 256

-- the low byte first, as the 8086 stores a word
abbrev pub word_from_bytes : ℕ → ℕ → ℕ
word_from_bytes low high = low + 256 * high

-- ---- arithmetic: what is left of the result in a word

abbrev pub wrapping_add : Width → ℕ → ℕ → ℕ
wrapping_add w x y = wrap w (x + y)

abbrev pub wrapping_sub : Width → ℕ → ℕ → ℕ
wrapping_sub w x y = wrap w (x + (2 ^ bits w - y))

abbrev pub wrapping_mul : Width → ℕ → ℕ → ℕ
wrapping_mul w x y = wrap w (x * y)

-- the upper word of a product
abbrev pub high_product : Width → ℕ → ℕ → ℕ
high_product w x y = x * y / 2 ^ bits w

-- the signed quotient, rounded toward zero; the least number by -1 wraps to itself
abbrev pub signed_quotient : Width → ℕ → ℕ → ℕ
signed_quotient w x y = cast_unsigned w (int_div (cast_signed w x) (cast_signed w y))

-- what that division leaves, with the sign of x
abbrev pub signed_remainder : Width → ℕ → ℕ → ℕ
signed_remainder w x y = cast_unsigned w (int_rem (cast_signed w x) (cast_signed w y))

-- x is below y, both read as signed numbers
abbrev pub is_signed_less : Width → ℕ → ℕ → Bool
is_signed_less w x y = int_lt (cast_signed w x) (cast_signed w y)

-- ---- shifts

abbrev pub shifted_left : Width → ℕ → ℕ → ℕ
shifted_left w x k = wrap w (x * 2 ^ k)

abbrev pub shifted_right : ℕ → ℕ → ℕ
shifted_right x k = x / 2 ^ k

-- the sign comes in from the left
abbrev pub shifted_right_signed : Width → ℕ → ℕ → ℕ
shifted_right_signed w x k = cast_unsigned w (int_shr (cast_signed w x) k)
