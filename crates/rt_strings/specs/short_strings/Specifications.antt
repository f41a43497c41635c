-- What the runtime promises of each routine on strings.
use Rattle.std.specs.Prelude.{◌≡◌, ℕ, ◌+◌, ◌<◌, List, [], ◌∷◌, length}
use Rattle.common_values.specs.Strings.{cut}
use Rattle.flat_code.specs.declared.memory.Place.{Place}
use Rattle.flat_code.specs.Program.{FlatProgram, Choice, runtime_key}
use Rattle.flat_code.specs.Meaning.{Frame, State}
use Rattle.flat_code.specs.Gives.{KeepsRest, HasStack, Ends}
use Rattle.runtime_proofs.specs.strings_in_memory.Strings.{HasString, IsReached, IsOffStack, IsIn, CanMove, place}

abbrev pub assign_number : ℕ
assign_number = 523

-- a text stands at one place and may be assigned to a variable of so many bytes at another, or at the same one
pub record CanAssign (choice : Choice) (sp : ℕ) (s : State) (to : Place) (size : ℕ) (from : Place) (text : List ℕ) : Type 0 where
  pub small : size < 256
  pub source : HasString s.cells from text
  pub target : IsReached s.cells to (1 + size)
  pub target_off : IsOffStack choice sp to (1 + size)
  pub source_off : IsOffStack choice sp from (1 + length text)
  pub apart : CanMove to from (1 + length (cut size text))

-- The target gets the text, cut to its size; what stands behind that stays.
abbrev pub Assigns : FlatProgram → Choice → Type 0
Assigns program choice =
    (to_segment to size from_segment from : ℕ) (text : List ℕ) (f : Frame) (s : State) → to_segment < 65536 → to < 65536 → from_segment < 65536 → from < 65536 → HasStack program 64 f → CanAssign choice f.sp s (place to_segment to) size (place from_segment from) text →
    Ends program choice (runtime_key assign_number) (IsIn (place to_segment to) (1 + length (cut size text)))
    (λ after bytes. (bytes ≡ []) × HasString after.cells (place to_segment to) (cut size text) × KeepsRest s after)
    256 8192 (to_segment ∷ to ∷ size ∷ from_segment ∷ from ∷ []) f s
