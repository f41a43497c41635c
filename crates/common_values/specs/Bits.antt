-- The bits of integers: `and`, `or`, `xor` and `not` in an integer type, Hi, Lo and Swap, and besides Abs and Sqr.
use Rattle.std.specs.Prelude.{ℕ, ℤ, pos, negsuc, ◌*ℤ◌, ◌-ℤ◌, bit_and, bit_or, bit_xor}
use Rattle.std.specs.Int.RustNames.{unsigned_abs}
use Rattle.common_values.specs.integers.Words.{w16, word_of, low_byte, high_byte, word_from_bytes}
use Rattle.common_values.specs.declared.ordinals.IntegerType.{IntegerType}
use Rattle.common_values.specs.Ordinals.{width_of, kept}

-- the word that stores a number
abbrev pub stored : IntegerType → ℤ → ℕ
stored type value = word_of (width_of type) value

abbrev pub conjunction : IntegerType → ℤ → ℤ → ℤ
conjunction type a b = kept type (pos (bit_and (stored type a) (stored type b)))

abbrev pub disjunction : IntegerType → ℤ → ℤ → ℤ
disjunction type a b = kept type (pos (bit_or (stored type a) (stored type b)))

abbrev pub exclusive_disjunction : IntegerType → ℤ → ℤ → ℤ
exclusive_disjunction type a b = kept type (pos (bit_xor (stored type a) (stored type b)))

-- the number whose bits are all others than those of a, which is -1 - a
abbrev pub complement : IntegerType → ℤ → ℤ
complement type a = kept type (negsuc 0 -ℤ a)

-- ---- bytes

-- bits 8 to 15
abbrev pub hi : ℤ → ℕ
hi value = high_byte (word_of w16 value)

-- bits 0 to 7
abbrev pub lo : ℤ → ℕ
lo value = low_byte (word_of w16 value)

-- these two bytes change their places
abbrev pub swapped : IntegerType → ℤ → ℤ
swapped type value = kept type (pos (word_from_bytes (hi value) (lo value)))

-- ---- magnitudes and squares, which wrap

abbrev pub absolute : IntegerType → ℤ → ℤ
absolute type value = kept type (pos (unsigned_abs value))

abbrev pub squared : IntegerType → ℤ → ℤ
squared type value = kept type (value *ℤ value)
