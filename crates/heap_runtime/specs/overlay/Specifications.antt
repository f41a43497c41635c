-- What the runtime promises of OvrInit, OvrSetBuf and OvrClearBuf.
use Rattle.std.specs.Prelude.{◌≡◌, ℕ, ◌+◌, ◌||◌, if◌then◌else◌, Bool, false, List, [], ◌∷◌, length, map}
use Rattle.type_layout.specs.Words.{same_bytes}
use Rattle.common_values.specs.Strings.{upper}
use Rattle.flat_code.specs.Memory.{word_bytes}
use Rattle.flat_code.specs.Program.{FlatProgram, Choice, runtime_key}
use Rattle.flat_code.specs.Meaning.{Frame, State}
use Rattle.flat_code.specs.Gives.{HasStack, Ends, AreWords}
use Rattle.runtime_proofs.specs.strings_in_memory.Strings.{HasBytes, HasString, IsOffStack, IsIn, place}
use Rattle.heap_runtime.specs.overlay.Data.{HasResult, HasName}

abbrev pub init_number : ℕ
init_number = 768

abbrev pub set_buffer_number : ℕ
set_buffer_number = 769

abbrev pub clear_buffer_number : ℕ
clear_buffer_number = 770

-- ---- which string names the overlay file

-- a name is compared without regard to the case of the string's letters; an empty one is that of no file
abbrev pub is_file : List ℕ → List ℕ → Bool
is_file [] text = false
is_file (letter ∷ name) text = same_bytes (letter ∷ name) (map upper text)

-- ---- what a call leaves

-- OvrResult: 0, or -2 where the file was not found
abbrev pub result_word : Bool → ℕ
result_word found = if found then 0 else 65534

pub record SetsResult (choice : Choice) (result value : ℕ) (installed : Bool) (s after : State) (bytes : List ℕ) : Type 0 where
  pub nothing : bytes ≡ []
  pub result_is : HasBytes after.cells (place choice.data_segment result) 0 (word_bytes value)
  pub flag : after.flag ≡ (installed || s.flag)
  pub input : after.input ≡ s.input
  pub out : after.out ≡ s.out
  pub err : after.err ≡ s.err

-- nothing but OvrResult is changed
abbrev pub IsResult : Choice → ℕ → ℕ → Type 0
IsResult choice result x = IsIn (place choice.data_segment result) 2 x

-- ---- the routines

-- The overlays are installed exactly where the string names their file.
abbrev pub Installs : FlatProgram → Choice → ℕ → ℕ → Type 0
Installs program choice result name =
    (segment offset : ℕ) (text : List ℕ) (f : Frame) (s : State) → AreWords 2 (segment ∷ offset ∷ []) → HasStack program 64 f → HasName program choice result name s.cells → HasString s.cells (place segment offset) text → IsOffStack choice f.sp (place segment offset) (1 + length text) →
    Ends program choice (runtime_key init_number) (IsResult choice result)
    (SetsResult choice result (result_word (is_file program.ovr_name text)) (is_file program.ovr_name text) s)
    512 16384 (segment ∷ offset ∷ []) f s

-- what a call promises that always succeeds
abbrev pub Succeeds : FlatProgram → Choice → ℕ → ℕ → List ℕ → Frame → State → Type 0
Succeeds program choice result number args f s =
    Ends program choice (runtime_key number) (IsResult choice result) (SetsResult choice result 0 false s) 1 64 args f s

abbrev pub SetsBuffer : FlatProgram → Choice → ℕ → Type 0
SetsBuffer program choice result =
    (low high : ℕ) (f : Frame) (s : State) → AreWords 2 (low ∷ high ∷ []) → HasStack program 64 f → HasResult choice result s.cells → Succeeds program choice result set_buffer_number (low ∷ high ∷ []) f s

abbrev pub ClearsBuffer : FlatProgram → Choice → ℕ → Type 0
ClearsBuffer program choice result =
    (f : Frame) (s : State) → HasStack program 64 f → HasResult choice result s.cells → Succeeds program choice result clear_buffer_number [] f s
