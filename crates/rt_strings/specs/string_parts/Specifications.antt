-- What the runtime promises of Copy, Delete and UpCase.
use Rattle.std.specs.Prelude.{◌≡◌, ℕ, ◌+◌, ◌<◌, List, [], ◌∷◌, length, Result, Ok}
use Rattle.common_values.specs.Strings.{copied, deleted, upper}
use Rattle.flat_code.specs.declared.memory.Place.{Place}
use Rattle.flat_code.specs.Memory.{word_bytes}
use Rattle.flat_code.specs.Program.{FlatProgram, Choice, runtime_key}
use Rattle.flat_code.specs.Meaning.{Frame, State}
use Rattle.flat_code.specs.Gives.{KeepsRest, HasStack, Ends, AreWords, Computes}
use Rattle.runtime_proofs.specs.strings_in_memory.Strings.{HasString, IsReached, IsOffStack, IsIn, CanMove, place}
use Rattle.runtime_proofs.specs.string_loops.Counts.{long_value}

abbrev pub copy_number : ℕ
copy_number = 526

abbrev pub delete_number : ℕ
delete_number = 527

abbrev pub upper_number : ℕ
upper_number = 528

-- a piece of a text may be copied into a variable of 256 bytes, where the text stands too, or apart
pub record CanCopy (choice : Choice) (sp : ℕ) (s : State) (to from : Place) (text : List ℕ) : Type 0 where
  pub source : HasString s.cells from text
  pub target : IsReached s.cells to 256
  pub target_off : IsOffStack choice sp to 256
  pub source_off : IsOffStack choice sp from (1 + length text)
  pub onward : CanMove to from 256

-- The target gets the bytes from the place on, as many as are asked for or stand there.
abbrev pub Copies : FlatProgram → Choice → Type 0
Copies program choice =
    (to_segment to from_segment from low high count_low count_high : ℕ) (text : List ℕ) (f : Frame) (s : State) → AreWords 8 (to_segment ∷ to ∷ from_segment ∷ from ∷ low ∷ high ∷ count_low ∷ count_high ∷ []) → HasStack program 64 f → CanCopy choice f.sp s (place to_segment to) (place from_segment from) text →
    Ends program choice (runtime_key copy_number) (IsIn (place to_segment to) (1 + length (copied text (long_value low high) (long_value count_low count_high))))
    (λ after bytes. (bytes ≡ []) × HasString after.cells (place to_segment to) (copied text (long_value low high) (long_value count_low count_high)) × KeepsRest s after)
    256 8192 (to_segment ∷ to ∷ from_segment ∷ from ∷ low ∷ high ∷ count_low ∷ count_high ∷ []) f s

-- a string variable from which bytes may be taken out
pub record CanDelete (choice : Choice) (sp : ℕ) (s : State) (to : Place) (text : List ℕ) : Type 0 where
  pub source : HasString s.cells to text
  pub off : IsOffStack choice sp to (1 + length text)

-- The string loses the bytes that Copy would give.
abbrev pub Deletes : FlatProgram → Choice → Type 0
Deletes program choice =
    (to_segment to low high count_low count_high : ℕ) (text : List ℕ) (f : Frame) (s : State) → AreWords 6 (to_segment ∷ to ∷ low ∷ high ∷ count_low ∷ count_high ∷ []) → HasStack program 64 f → CanDelete choice f.sp s (place to_segment to) text →
    Ends program choice (runtime_key delete_number) (IsIn (place to_segment to) (1 + length (deleted text (long_value low high) (long_value count_low count_high))))
    (λ after bytes. (bytes ≡ []) × HasString after.cells (place to_segment to) (deleted text (long_value low high) (long_value count_low count_high)) × KeepsRest s after)
    256 8192 (to_segment ∷ to ∷ low ∷ high ∷ count_low ∷ count_high ∷ []) f s

-- the letter in upper case, of the lower byte of a word whose upper byte is 0
abbrev pub upper_of : List ℕ → Result (List ℕ) ℕ
upper_of (c ∷ []) = Ok (word_bytes (upper c))
upper_of words = Ok []

abbrev pub MakesUpper : FlatProgram → Choice → Type 0
MakesUpper program choice = Computes program choice (runtime_key upper_number) 64 1 upper_of 0 64
