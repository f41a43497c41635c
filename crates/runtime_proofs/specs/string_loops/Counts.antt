-- LongInts that say how many bytes, or from which place on.
use Rattle.std.specs.Prelude.{ℕ, ℤ}
use Rattle.common_values.specs.integers.Words.{w32, cast_signed}
use Rattle.flat_code.specs.Runtime.{long_word}

-- the number that two words stand for, the lower one first
abbrev pub long_value : ℕ → ℕ → ℤ
long_value low high = cast_signed w32 (long_word low high)
