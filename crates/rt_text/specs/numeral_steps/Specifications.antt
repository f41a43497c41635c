-- What one step does in an activation that has the words of a numeral among its locals.
use Rattle.std.specs.Prelude.{◌≡◌, ℕ, ◌+◌, ◌*◌, ◌<◌, ◌≤◌, Bool, List, ◌++◌, length, Ok}
use Rattle.common_values.specs.integers.Words.{w32, cast_unsigned}
use Rattle.common_values.specs.declared.numerals.Stage.{Stage}
use Rattle.common_values.specs.declared.numerals.Stage.TheVariants as stages
use Rattle.common_values.specs.Numerals.{radix_of, greatest_magnitude, signed, next_stage}
use Rattle.flat_code.specs.Tree.{Code}
use Rattle.flat_code.specs.Program.{Choice}
use Rattle.flat_code.specs.Meaning.{Frame, truth}
use Rattle.runtime_proofs.specs.routine_proofs.Activation.{Slot, Activation}
use Rattle.runtime_proofs.specs.routine_proofs.Straight.{Onward, straight}
use Rattle.rt_text.specs.numeral_steps.Stages.{numeral_words, stage_words, IsAt}
use Rattle.rt_text.specs.numeral_steps.Step.{numeral_step, give_sign}

-- the numeral goes on with its byte as `next_stage` says, and nothing else is changed
pub record Steps (stage : Stage) (byte digit : ℕ) : Type 0 where
  pub words : List Slot
  pub is_at : IsAt byte (next_stage stage byte) words
  pub does : (choice : Choice) (own : Frame) (front back : List Slot) (e : Activation) →
      straight choice own (2 * length front) numeral_step (record e { words = front ++ (stage_words byte stage digit ++ back) }) ≡ Ok (record { exit = Onward; there = record e { words = front ++ (words ++ back) } })

abbrev pub StepsOn : Type 0
StepsOn = (stage : Stage) (byte digit : ℕ) → byte < 256 → Steps stage byte digit

-- the words of the magnitude become those of the LongInt that a whole numeral stands for
pub record GivesSign (is_negative is_hexadecimal : Bool) (magnitude byte digit : ℕ) : Type 0 where
  pub high : ℕ
  pub low : ℕ
  pub low_small : low < 65536
  pub high_small : high < 65536
  pub is : low + 65536 * high ≡ cast_unsigned w32 (signed is_negative magnitude)
  pub does : (choice : Choice) (own : Frame) (front back : List Slot) (e : Activation) →
      straight choice own (2 * length front) give_sign (record e { words = front ++ (stage_words byte (stages.Digits is_negative is_hexadecimal magnitude) digit ++ back) })
      ≡ Ok (record { exit = Onward; there = record e { words = front ++ (numeral_words byte 3 (truth is_negative) (radix_of is_hexadecimal) high low digit ++ back) } })

abbrev pub Signs : Type 0
Signs = (is_negative is_hexadecimal : Bool) (magnitude byte digit : ℕ) → magnitude ≤ greatest_magnitude is_negative → GivesSign is_negative is_hexadecimal magnitude byte digit
