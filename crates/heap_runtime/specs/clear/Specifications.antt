-- What the runtime promises of the clearing of bytes.
use Rattle.std.specs.Prelude.{◌≡◌, ℕ, ◌+◌, ◌*◌, List, [], ◌∷◌, replicate}
use Rattle.flat_code.specs.Program.{FlatProgram, Choice, runtime_key}
use Rattle.flat_code.specs.Meaning.{Frame, State}
use Rattle.flat_code.specs.Gives.{AreWords, KeepsRest, HasStack, Ends}
use Rattle.runtime_proofs.specs.strings_in_memory.Strings.{HasBytes, IsReached, IsOffStack, IsIn, place}

abbrev pub clear_number : ℕ
clear_number = 773

-- so many bytes from a place on are zeros
pub record IsCleared (segment offset count : ℕ) (s after : State) (bytes : List ℕ) : Type 0 where
  pub nothing : bytes ≡ []
  pub zeros : HasBytes after.cells (place segment offset) 0 (replicate count 0)
  pub rest : KeepsRest s after

-- and nothing else is changed
abbrev pub Clears : FlatProgram → Choice → Type 0
Clears program choice =
    (segment offset count : ℕ) (f : Frame) (s : State) → AreWords 3 (segment ∷ offset ∷ count ∷ []) → HasStack program 64 f → IsReached s.cells (place segment offset) count → IsOffStack choice f.sp (place segment offset) count →
    Ends program choice (runtime_key clear_number) (IsIn (place segment offset) count) (IsCleared segment offset count s) (1 + count) (18 * (1 + count)) (segment ∷ offset ∷ count ∷ []) f s
