-- What the runtime promises of concatenation and Insert.
use Rattle.std.specs.Prelude.{◌≡◌, ℕ, ◌+◌, ◌≤◌, ◌<◌, List, [], ◌∷◌, length}
use Rattle.common_values.specs.Strings.{joined, inserted}
use Rattle.flat_code.specs.declared.memory.Place.{Place}
use Rattle.flat_code.specs.Memory.{address_of}
use Rattle.flat_code.specs.Program.{FlatProgram, Choice, runtime_key}
use Rattle.flat_code.specs.Meaning.{Frame, State}
use Rattle.flat_code.specs.Gives.{KeepsRest, HasStack, Ends, AreWords}
use Rattle.runtime_proofs.specs.strings_in_memory.Strings.{HasString, IsReached, IsOffStack, IsIn, CanMove, place}
use Rattle.runtime_proofs.specs.string_loops.Counts.{long_value}

abbrev pub concat_number : ℕ
concat_number = 524

abbrev pub insert_number : ℕ
insert_number = 525

-- Two strings may be joined in a variable of 256 bytes. The first may stand there already, or apart. The second may stand apart, or so that each of its bytes goes to a place above its own.
pub record CanJoin (choice : Choice) (sp : ℕ) (s : State) (to first second : Place) (a b : List ℕ) : Type 0 where
  pub first_there : HasString s.cells first a
  pub second_there : HasString s.cells second b
  pub target : IsReached s.cells to 256
  pub target_off : IsOffStack choice sp to 256
  pub first_off : IsOffStack choice sp first (1 + length a)
  pub second_off : IsOffStack choice sp second (1 + length b)
  pub onward : CanMove to first 256
  pub aside : CanMove first to 256
  pub above : CanMove second to 256

-- The target gets both, cut to 255 bytes.
abbrev pub Joins : FlatProgram → Choice → Type 0
Joins program choice =
    (to_segment to first_segment first second_segment second : ℕ) (a b : List ℕ) (f : Frame) (s : State) → AreWords 6 (to_segment ∷ to ∷ first_segment ∷ first ∷ second_segment ∷ second ∷ []) → HasStack program 64 f → CanJoin choice f.sp s (place to_segment to) (place first_segment first) (place second_segment second) a b →
    Ends program choice (runtime_key concat_number) (IsIn (place to_segment to) (1 + length (joined a b)))
    (λ after bytes. (bytes ≡ []) × HasString after.cells (place to_segment to) (joined a b) × KeepsRest s after)
    512 8192 (to_segment ∷ to ∷ first_segment ∷ first ∷ second_segment ∷ second ∷ []) f s

-- a part may be put into a string variable of a size; it stands apart
pub record CanInsert (choice : Choice) (sp : ℕ) (s : State) (part to : Place) (size : ℕ) (t text : List ℕ) : Type 0 where
  pub small : size < 256
  pub part_there : HasString s.cells part t
  pub text_there : HasString s.cells to text
  pub fits : length text ≤ size
  pub target : IsReached s.cells to (1 + size)
  pub target_off : IsOffStack choice sp to (1 + size)
  pub part_off : IsOffStack choice sp part (1 + length t)
  pub apart : (i j : ℕ) → i < 1 + length t → j < 1 + size → address_of part i ≡ address_of to j → ⊥

-- The string gets the part before the place, and is cut to its size.
abbrev pub Inserts : FlatProgram → Choice → Type 0
Inserts program choice =
    (part_segment part to_segment to low high size : ℕ) (t text : List ℕ) (f : Frame) (s : State) → AreWords 7 (part_segment ∷ part ∷ to_segment ∷ to ∷ low ∷ high ∷ size ∷ []) → HasStack program 64 f → CanInsert choice f.sp s (place part_segment part) (place to_segment to) size t text →
    Ends program choice (runtime_key insert_number) (IsIn (place to_segment to) (1 + length (inserted t text (long_value low high) size)))
    (λ after bytes. (bytes ≡ []) × HasString after.cells (place to_segment to) (inserted t text (long_value low high) size) × KeepsRest s after)
    512 8192 (part_segment ∷ part ∷ to_segment ∷ to ∷ low ∷ high ∷ size ∷ []) f s
