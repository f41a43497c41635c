-- What the runtime promises of the routines that write: what they add to the output, as values says it.
use Rattle.std.specs.Prelude.{◌≡◌, ℕ, ◌+◌, ◌<◌, ◌==◌, not, ℤ, List, [], ◌∷◌, ◌++◌, length}
use Rattle.common_values.specs.integers.Words.{w16, cast_signed, low_byte}
use Rattle.common_values.specs.Written.{padded, boolean_text, line_end}
use Rattle.flat_code.specs.declared.memory.Place.{Place}
use Rattle.flat_code.specs.Memory.{address_of}
use Rattle.flat_code.specs.Program.{FlatProgram, Choice, runtime_key}
use Rattle.flat_code.specs.Meaning.{Frame, State}
use Rattle.flat_code.specs.Gives.{HasStack, Ends, AreWords}
use Rattle.runtime_proofs.specs.strings_in_memory.Strings.{HasString, IsOffStack, IsIn, place}
use Rattle.runtime_proofs.specs.text_memory.Data.{HasItem, item_place}

abbrev pub write_string_number : ℕ
write_string_number = 256

abbrev pub write_char_number : ℕ
write_char_number = 257

abbrev pub write_boolean_number : ℕ
write_boolean_number = 258

abbrev pub write_line_number : ℕ
write_line_number = 259

-- so much is written, and the item buffer is there as before
pub record Writes (choice : Choice) (item : ℕ) (text : List ℕ) (s after : State) (bytes : List ℕ) : Type 0 where
  pub nothing : bytes ≡ []
  pub out : after.out ≡ s.out ++ text
  pub err : after.err ≡ s.err
  pub input : after.input ≡ s.input
  pub flag : after.flag ≡ s.flag
  pub buffer : HasItem choice item after.cells

-- the buffer's room, which routines on text use as they like
abbrev pub IsRoom : Choice → ℕ → ℕ → Type 0
IsRoom choice item x = (i : ℕ) × (i < 256) × (x ≡ address_of (item_place choice item) (256 + i))

-- the width that a word stands for
abbrev pub width_of : ℕ → ℤ
width_of word = cast_signed w16 word

-- a string that lies apart from the buffer
pub record CanWrite (choice : Choice) (item sp : ℕ) (s : State) (from : Place) (text : List ℕ) : Type 0 where
  pub source : HasString s.cells from text
  pub source_off : IsOffStack choice sp from (1 + length text)
  pub buffer : HasItem choice item s.cells
  pub apart : (i j : ℕ) → i < 512 → j < 1 + length text → address_of (item_place choice item) i ≡ address_of from j → ⊥

-- what a call promises that writes a text
abbrev pub CallWrites : FlatProgram → Choice → ℕ → ℕ → List ℕ → List ℕ → Frame → State → Type 0
CallWrites program choice item number text args f s = Ends program choice (runtime_key number) (IsRoom choice item) (Writes choice item text s) 512 8192 args f s

abbrev pub WritesString : FlatProgram → Choice → ℕ → Type 0
WritesString program choice item =
    (segment offset width : ℕ) (text : List ℕ) (f : Frame) (s : State) → AreWords 3 (segment ∷ offset ∷ width ∷ []) → HasStack program 64 f → CanWrite choice item f.sp s (place segment offset) text →
    CallWrites program choice item write_string_number (padded (width_of width) text) (segment ∷ offset ∷ width ∷ []) f s

abbrev pub WritesChar : FlatProgram → Choice → ℕ → Type 0
WritesChar program choice item =
    (char width : ℕ) (f : Frame) (s : State) → AreWords 2 (char ∷ width ∷ []) → HasStack program 64 f → HasItem choice item s.cells →
    CallWrites program choice item write_char_number (padded (width_of width) (low_byte char ∷ [])) (char ∷ width ∷ []) f s

-- a word that isn't 0 is true
abbrev pub WritesBoolean : FlatProgram → Choice → ℕ → Type 0
WritesBoolean program choice item =
    (value width : ℕ) (f : Frame) (s : State) → AreWords 2 (value ∷ width ∷ []) → HasStack program 64 f → HasItem choice item s.cells →
    CallWrites program choice item write_boolean_number (padded (width_of width) (boolean_text (not (value == 0)))) (value ∷ width ∷ []) f s

abbrev pub WritesLine : FlatProgram → Choice → ℕ → Type 0
WritesLine program choice item =
    (f : Frame) (s : State) → HasStack program 64 f → HasItem choice item s.cells → CallWrites program choice item write_line_number line_end [] f s
