-- What the runtime promises of the routine that writes an integer.
use Rattle.std.specs.Prelude.{ℕ, List, [], ◌∷◌}
use Rattle.common_values.specs.integers.Words.{w32, cast_signed}
use Rattle.common_values.specs.Written.{padded, integer_text}
use Rattle.flat_code.specs.Program.{FlatProgram, Choice, runtime_key}
use Rattle.flat_code.specs.Meaning.{Frame, State}
use Rattle.flat_code.specs.Gives.{HasStack, Ends, AreWords}
use Rattle.flat_code.specs.Runtime.{long_word}
use Rattle.runtime_proofs.specs.text_memory.Data.{HasItem}
use Rattle.rt_text.specs.write_text.Specifications.{IsRoom, Writes, width_of}

abbrev pub write_integer_number : ℕ
write_integer_number = 264

-- the decimal text of the number that two words stand for, the lower one first
abbrev pub long_text : ℕ → ℕ → List ℕ
long_text low high = integer_text (cast_signed w32 (long_word low high))

abbrev pub WritesInteger : FlatProgram → Choice → ℕ → Type 0
WritesInteger program choice item =
    (low high width : ℕ) (f : Frame) (s : State) → AreWords 3 (low ∷ high ∷ width ∷ []) → HasStack program 64 f → HasItem choice item s.cells →
    Ends program choice (runtime_key write_integer_number) (IsRoom choice item) (Writes choice item (padded (width_of width) (long_text low high)) s) 544 9216 (low ∷ high ∷ width ∷ []) f s
