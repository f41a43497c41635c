-- The predefined integer types: what they store of a number, and the operators that need more than one step on a word.
use Rattle.std.specs.Prelude.{ℕ, ◌^◌, ℤ, pos, negsuc, ◌*ℤ◌, ◌-ℤ◌, ◌≤ℤ◌}
use Rattle.std.specs.Int.RustNames.{int_div}
use Rattle.common_values.specs.integers.Words.{Width, w8, w16, w32, word_of, cast_signed, shifted_right}
use Rattle.common_values.specs.declared.ordinals.IntegerType.{IntegerType}
use Rattle.common_values.specs.declared.ordinals.IntegerType.TheVariants.{ShortInt, Byte, Integer, Word, LongInt}

abbrev pub width_of : IntegerType → Width
width_of ShortInt = w8
width_of Byte = w8
width_of Integer = w16
width_of Word = w16
width_of LongInt = w32

abbrev pub lowest : IntegerType → ℤ
lowest ShortInt = negsuc 127
lowest Byte = pos 0
lowest Integer = negsuc 32767
lowest Word = pos 0
lowest LongInt = negsuc 2147483647

abbrev pub greatest : IntegerType → ℤ
greatest ShortInt = pos 127
greatest Byte = pos 255
greatest Integer = pos 32767
greatest Word = pos 65535
greatest LongInt = pos 2147483647

abbrev pub IsWithin : ℤ → ℤ → ℤ → Type 0
IsWithin low high value = (low ≤ℤ value) × (value ≤ℤ high)

abbrev pub IsValueOf : IntegerType → ℤ → Type 0
IsValueOf type value = IsWithin (lowest type) (greatest type) value

-- what a word means in the type
abbrev pub meant_by : IntegerType → ℕ → ℤ
meant_by ShortInt word = cast_signed w8 word
meant_by Byte word = pos word
meant_by Integer word = cast_signed w16 word
meant_by Word word = pos word
meant_by LongInt word = cast_signed w32 word

-- what is left of a number when the type's low bytes of it are stored
abbrev pub kept : IntegerType → ℤ → ℤ
kept type value = meant_by type (word_of (width_of type) value)

-- `div`: rounded toward zero, and wrapped where it passes the type
abbrev pub quotient : IntegerType → ℤ → ℤ → ℤ
quotient type a b = kept type (int_div a b)

-- `mod`: what `div` leaves of a
abbrev pub remainder : IntegerType → ℤ → ℤ → ℤ
remainder type a b = kept type (a -ℤ (quotient type a b *ℤ b))

-- a shift takes its count modulo 256
abbrev pub shift_count : ℤ → ℕ
shift_count count = word_of w8 count

abbrev pub left_shift : IntegerType → ℤ → ℤ → ℤ
left_shift type value count = kept type (value *ℤ pos (2 ^ shift_count count))

-- zeros come in from the left
abbrev pub right_shift : IntegerType → ℤ → ℤ → ℤ
right_shift type value count = meant_by type (shifted_right (word_of (width_of type) value) (shift_count count))
