-- The words by which a routine knows where a numeral stands that it reads byte by byte.
use Rattle.std.specs.Prelude.{ℕ, ◌/◌, ◌%◌, Bool, false, true, List, [], ◌∷◌, Option, Some, None}
use Rattle.common_values.specs.declared.numerals.Stage.{Stage}
use Rattle.common_values.specs.declared.numerals.Stage.TheVariants as stages
use Rattle.common_values.specs.Numerals.{radix_of}
use Rattle.flat_code.specs.Meaning.{truth}
use Rattle.runtime_proofs.specs.routine_proofs.Activation.{Slot, Holds}

abbrev pub stage_number : Stage → ℕ
stage_number stages.Start = 0
stage_number (stages.Signed is_negative) = 1
stage_number (stages.Dollar is_negative) = 2
stage_number (stages.Digits is_negative is_hexadecimal magnitude) = 3

abbrev pub has_minus : Stage → Bool
has_minus stages.Start = false
has_minus (stages.Signed is_negative) = is_negative
has_minus (stages.Dollar is_negative) = is_negative
has_minus (stages.Digits is_negative is_hexadecimal magnitude) = is_negative

abbrev pub has_dollar : Stage → Bool
has_dollar stages.Start = false
has_dollar (stages.Signed is_negative) = false
has_dollar (stages.Dollar is_negative) = true
has_dollar (stages.Digits is_negative is_hexadecimal magnitude) = is_hexadecimal

abbrev pub magnitude_of : Stage → ℕ
magnitude_of stages.Start = 0
magnitude_of (stages.Signed is_negative) = 0
magnitude_of (stages.Dollar is_negative) = 0
magnitude_of (stages.Digits is_negative is_hexadecimal magnitude) = magnitude

abbrev pub numeral_words : ℕ → ℕ → ℕ → ℕ → ℕ → ℕ → ℕ → List Slot
numeral_words byte stage sign radix high low digit = Holds byte ∷ Holds stage ∷ Holds sign ∷ Holds radix ∷ Holds high ∷ Holds low ∷ Holds digit ∷ []

-- behind a byte the numeral stands there
abbrev pub stage_words : ℕ → Stage → ℕ → List Slot
stage_words byte stage digit =
    numeral_words byte (stage_number stage) (truth (has_minus stage)) (radix_of (has_dollar stage)) (magnitude_of stage / 65536) (magnitude_of stage % 65536) digit

-- after one more byte: it stands farther, or no numeral goes on so
pub data IsAt (byte : ℕ) : Option Stage → List Slot → Type 0 where
  at_stage : (stage : Stage) (digit : ℕ) → IsAt byte (Some stage) (stage_words byte stage digit)
  at_none : (sign radix high low digit : ℕ) → IsAt byte None (numeral_words byte 4 sign radix high low digit)
