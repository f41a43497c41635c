-- What the runtime promises of loads through pointers and of the moving of bytes.
use Rattle.std.specs.Prelude.{◌≡◌, ℕ, ◌+◌, ◌*◌, ◌<◌, List, [], ◌∷◌, length}
use Rattle.common_values.specs.integers.Words.{w8, w16, cast_signed, word_of}
use Rattle.flat_code.specs.declared.memory.Place.{Place}
use Rattle.flat_code.specs.Memory.{word_bytes}
use Rattle.flat_code.specs.Program.{FlatProgram, Choice, runtime_key}
use Rattle.flat_code.specs.Meaning.{Frame, State}
use Rattle.flat_code.specs.Gives.{AreWords, KeepsRest, HasStack, Ends}
use Rattle.runtime_proofs.specs.strings_in_memory.Strings.{HasBytes, IsReached, IsOffStack, IsIn, CanMove, place}

abbrev pub load_byte_number : ℕ
load_byte_number = 538

abbrev pub load_short_number : ℕ
load_short_number = 539

abbrev pub load_word_number : ℕ
load_word_number = 540

abbrev pub move_number : ℕ
move_number = 541

-- these bytes stand at a place and can be read
pub record CanLoad (choice : Choice) (sp : ℕ) (s : State) (p : Place) (bytes : List ℕ) : Type 0 where
  pub there : HasBytes s.cells p 0 bytes
  pub off : IsOffStack choice sp p (length bytes)

-- From the bytes that stand where a pointer leads to a word is made; nothing is changed.
abbrev pub Loads : FlatProgram → Choice → ℕ → List ℕ → ℕ → Type 0
Loads program choice number bytes value =
    (segment offset : ℕ) (f : Frame) (s : State) → AreWords 2 (segment ∷ offset ∷ []) → HasStack program 64 f → CanLoad choice f.sp s (place segment offset) bytes →
    Ends program choice (runtime_key number) (λ address. ⊥) (λ after given. (given ≡ word_bytes value) × KeepsRest s after) 0 16 (segment ∷ offset ∷ []) f s

abbrev pub LoadsByte : FlatProgram → Choice → Type 0
LoadsByte program choice = (byte : ℕ) → Loads program choice load_byte_number (byte ∷ []) byte

-- with its sign
abbrev pub LoadsShort : FlatProgram → Choice → Type 0
LoadsShort program choice = (byte : ℕ) → Loads program choice load_short_number (byte ∷ []) (word_of w16 (cast_signed w8 byte))

abbrev pub LoadsWord : FlatProgram → Choice → Type 0
LoadsWord program choice = (value : ℕ) → value < 65536 → Loads program choice load_word_number (word_bytes value) value

-- bytes stand at one place and can be moved to another, or to the same one
pub record CanMoveBytes (choice : Choice) (sp : ℕ) (s : State) (to from : Place) (bytes : List ℕ) : Type 0 where
  pub source : CanLoad choice sp s from bytes
  pub target : IsReached s.cells to (length bytes)
  pub target_off : IsOffStack choice sp to (length bytes)
  pub apart : CanMove to from (length bytes)

-- The target gets the bytes; nothing else is changed.
abbrev pub MovesBytes : FlatProgram → Choice → Type 0
MovesBytes program choice =
    (to_segment to from_segment from : ℕ) (bytes : List ℕ) (f : Frame) (s : State) → AreWords 5 (to_segment ∷ to ∷ from_segment ∷ from ∷ length bytes ∷ []) → HasStack program 64 f → CanMoveBytes choice f.sp s (place to_segment to) (place from_segment from) bytes →
    Ends program choice (runtime_key move_number) (IsIn (place to_segment to) (length bytes))
    (λ after given. (given ≡ []) × HasBytes after.cells (place to_segment to) 0 bytes × KeepsRest s after)
    (1 + length bytes) (20 * (1 + length bytes)) (to_segment ∷ to ∷ from_segment ∷ from ∷ length bytes ∷ []) f s
