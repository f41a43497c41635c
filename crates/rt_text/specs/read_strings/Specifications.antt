-- What the runtime promises of the routine that reads a string.
use Rattle.std.specs.Prelude.{◌≡◌, ℕ, ◌+◌, ◌<◌, ◌⊎◌, List, [], ◌∷◌, length}
use Rattle.common_values.specs.Input.{string_read}
use Rattle.flat_code.specs.declared.memory.Place.{Place}
use Rattle.flat_code.specs.Memory.{address_of}
use Rattle.flat_code.specs.Program.{FlatProgram, Choice, runtime_key}
use Rattle.flat_code.specs.Meaning.{Frame, State}
use Rattle.flat_code.specs.Gives.{HasStack, Ends, AreWords}
use Rattle.runtime_proofs.specs.strings_in_memory.Strings.{HasString, IsReached, IsOffStack, IsIn, place}
use Rattle.runtime_proofs.specs.text_memory.Data.{ahead_place}
use Rattle.rt_text.specs.read_text.Specifications.{HasInput, Reads, IsAhead}

abbrev pub read_string_number : ℕ
read_string_number = 265

-- a string variable of a size, apart from the byte ahead
pub record CanReadString (choice : Choice) (ahead sp : ℕ) (s : State) (to : Place) (size : ℕ) : Type 0 where
  pub small : size < 256
  pub target : IsReached s.cells to (1 + size)
  pub off : IsOffStack choice sp to (1 + size)
  pub apart : (i j : ℕ) → i < 1 + size → j < 2 → address_of to i ≡ address_of (ahead_place choice ahead) j → ⊥

-- the variable holds a text, and so much is left
pub record ReadsText (choice : Choice) (ahead : ℕ) (to : Place) (text left : List ℕ) (s after : State) (bytes : List ℕ) : Type 0 where
  pub string : HasString after.cells to text
  pub reads : Reads choice ahead [] left s after bytes

abbrev pub ReadsString : FlatProgram → Choice → ℕ → Type 0
ReadsString program choice ahead =
    (segment offset size : ℕ) (left : List ℕ) (f : Frame) (s : State) → AreWords 3 (segment ∷ offset ∷ size ∷ []) → HasStack program 64 f → HasInput choice ahead s.cells s.input left → CanReadString choice ahead f.sp s (place segment offset) size →
    Ends program choice (runtime_key read_string_number) (λ x. IsAhead choice ahead x ⊎ IsIn (place segment offset) (1 + length (string_read size left).0) x)
    (ReadsText choice ahead (place segment offset) (string_read size left).0 (string_read size left).1 s) 1024 32768 (segment ∷ offset ∷ size ∷ []) f s
