-- What the runtime promises of the routine that reads an integer.
use Rattle.std.specs.Prelude.{◌≡◌, ℕ, ◌+◌, ◌*◌, ℤ, List, [], Option, Some, None}
use Rattle.common_values.specs.integers.Words.{w32, cast_unsigned}
use Rattle.common_values.specs.Input.{number_read}
use Rattle.flat_code.specs.Program.{FlatProgram, Choice, runtime_key}
use Rattle.flat_code.specs.Meaning.{Frame, State}
use Rattle.flat_code.specs.Gives.{HasStack, Ends, Raises}
use Rattle.flat_code.specs.Runtime.{long_bytes}
use Rattle.rt_text.specs.read_text.Specifications.{HasInput, Reads, IsAhead, bytes_taken}

abbrev pub read_number_number : ℕ
read_number_number = 268

-- at most so many turns, by the bytes that are taken
abbrev pub number_turns : List ℕ → ℕ
number_turns left = 2 * bytes_taken left (number_read left).1 + 4

-- error 106, and nothing is written
pub record RefusesNumber (s after : State) (code : ℕ) : Type 0 where
  pub code_is : code ≡ 106
  pub out : after.out ≡ s.out
  pub err : after.err ≡ s.err

-- by the number that the input has, or none
abbrev pub ReadsSo : FlatProgram → Choice → ℕ → List ℕ → Frame → State → Option ℤ → Type 0
ReadsSo program choice ahead left f s (Some z) =
    Ends program choice (runtime_key read_number_number) (IsAhead choice ahead) (Reads choice ahead (long_bytes (cast_unsigned w32 z)) (number_read left).1 s) (number_turns left) (100 * (number_turns left + 1)) [] f s
ReadsSo program choice ahead left f s None =
    Raises program choice (runtime_key read_number_number) (RefusesNumber s) (number_turns left) (100 * (number_turns left + 1)) [] f s

abbrev pub ReadsNumber : FlatProgram → Choice → ℕ → Type 0
ReadsNumber program choice ahead = (left : List ℕ) (f : Frame) (s : State) → HasStack program 64 f → HasInput choice ahead s.cells s.input left → ReadsSo program choice ahead left f s (number_read left).0
