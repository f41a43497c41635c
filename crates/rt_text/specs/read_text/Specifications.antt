-- What the runtime promises of the routines that read: what they give and leave of the program's input, as values says it.
use Rattle.std.specs.Prelude.{◌≡◌, ℕ, ◌+◌, ◌-◌, ◌*◌, ◌<◌, List, [], length}
use Rattle.std.specs.List.{AllByRecursion}
use Rattle.common_values.specs.Input.{is_eof, is_eoln, char_read, after_line}
use Rattle.flat_code.specs.Memory.{Cells, word_bytes}
use Rattle.flat_code.specs.Program.{FlatProgram, Choice, runtime_key}
use Rattle.flat_code.specs.Meaning.{Frame, State, truth}
use Rattle.flat_code.specs.Gives.{HasStack, Ends}
use Rattle.runtime_proofs.specs.strings_in_memory.Strings.{HasBytes, IsIn}
use Rattle.runtime_proofs.specs.text_memory.Data.{IsLeft, ahead_place}

abbrev pub eof_number : ℕ
eof_number = 260

abbrev pub eoln_number : ℕ
eoln_number = 261

abbrev pub read_char_number : ℕ
read_char_number = 262

abbrev pub read_line_number : ℕ
read_line_number = 263

abbrev pub AreBytes : List ℕ → Type 0
AreBytes input = AllByRecursion (λ b. b < 256) input

-- the word that tells the byte ahead stands in memory, and with it so much is left of the program's input
pub record HasInput (choice : Choice) (ahead : ℕ) (m : Cells) (input left : List ℕ) : Type 0 where
  pub word : ℕ
  pub ahead_is : HasBytes m (ahead_place choice ahead) 0 (word_bytes word)
  pub left_is : IsLeft word input left
  pub bytes : AreBytes input

-- this is given, and so much is left
pub record Reads (choice : Choice) (ahead : ℕ) (given left : List ℕ) (s after : State) (bytes : List ℕ) : Type 0 where
  pub given_is : bytes ≡ given
  pub input : HasInput choice ahead after.cells after.input left
  pub out : after.out ≡ s.out
  pub err : after.err ≡ s.err
  pub flag : after.flag ≡ s.flag

abbrev pub IsAhead : Choice → ℕ → ℕ → Type 0
IsAhead choice ahead x = IsIn (ahead_place choice ahead) 2 x

-- how many bytes of the input were taken, where this is left of it
abbrev pub bytes_taken : List ℕ → List ℕ → ℕ
bytes_taken input left = length input - length left

-- what a call promises that takes no arguments
abbrev pub CallReads : FlatProgram → Choice → ℕ → ℕ → (List ℕ → List ℕ) → (List ℕ → List ℕ) → (List ℕ → ℕ) → Type 0
CallReads program choice ahead number given rest turns =
    (left : List ℕ) (f : Frame) (s : State) → HasStack program 64 f → HasInput choice ahead s.cells s.input left →
    Ends program choice (runtime_key number) (IsAhead choice ahead) (Reads choice ahead (given left) (rest left) s) (turns left) (64 * turns left) [] f s

abbrev pub TellsEof : FlatProgram → Choice → ℕ → Type 0
TellsEof program choice ahead = CallReads program choice ahead eof_number (λ left. word_bytes (truth (is_eof left))) (λ left. left) (λ left. 1)

abbrev pub TellsEoln : FlatProgram → Choice → ℕ → Type 0
TellsEoln program choice ahead = CallReads program choice ahead eoln_number (λ left. word_bytes (truth (is_eoln left))) (λ left. left) (λ left. 1)

abbrev pub ReadsChar : FlatProgram → Choice → ℕ → Type 0
ReadsChar program choice ahead = CallReads program choice ahead read_char_number (λ left. word_bytes (char_read left).0) (λ left. (char_read left).1) (λ left. 1)

-- at most so many turns, by the bytes that are taken
abbrev pub line_turns : List ℕ → ℕ
line_turns left = 2 * bytes_taken left (after_line left) + 3

abbrev pub ReadsLine : FlatProgram → Choice → ℕ → Type 0
ReadsLine program choice ahead = CallReads program choice ahead read_line_number (λ left. []) after_line line_turns
