-- What the runtime promises of Val.
use Rattle.std.specs.Prelude.{◌≡◌, ℕ, ◌+◌, List, [], ◌∷◌, length}
use Rattle.common_values.specs.integers.Words.{w32, cast_unsigned}
use Rattle.common_values.specs.Numerals.{val_of}
use Rattle.flat_code.specs.declared.memory.Place.{Place}
use Rattle.flat_code.specs.Memory.{word_bytes}
use Rattle.flat_code.specs.Program.{FlatProgram, Choice, runtime_key}
use Rattle.flat_code.specs.Meaning.{Frame, State}
use Rattle.flat_code.specs.Gives.{KeepsRest, HasStack, Ends, AreWords}
use Rattle.flat_code.specs.Runtime.{long_bytes}
use Rattle.runtime_proofs.specs.strings_in_memory.Strings.{HasString, IsOffStack, place}

abbrev pub val_value_number : ℕ
val_value_number = 266

abbrev pub val_place_number : ℕ
val_place_number = 267

-- a string that can be read
pub record CanRead (choice : Choice) (sp : ℕ) (s : State) (p : Place) (text : List ℕ) : Type 0 where
  pub there : HasString s.cells p text
  pub off : IsOffStack choice sp p (1 + length text)

-- a call gives these bytes and changes nothing
abbrev pub CallReads : FlatProgram → Choice → ℕ → (List ℕ → List ℕ) → Type 0
CallReads program choice number given =
    (segment offset : ℕ) (text : List ℕ) (f : Frame) (s : State) → AreWords 2 (segment ∷ offset ∷ []) → HasStack program 64 f → CanRead choice f.sp s (place segment offset) text →
    Ends program choice (runtime_key number) (λ address. ⊥) (λ after bytes. (bytes ≡ given text) × KeepsRest s after) 512 65536 (segment ∷ offset ∷ []) f s

-- the value as a LongInt, or 0
abbrev pub GivesValue : FlatProgram → Choice → Type 0
GivesValue program choice = CallReads program choice val_value_number (λ text. long_bytes (cast_unsigned w32 (val_of text).0))

-- 0, or the place of the first byte by which no numeral goes on
abbrev pub GivesPlace : FlatProgram → Choice → Type 0
GivesPlace program choice = CallReads program choice val_place_number (λ text. word_bytes (val_of text).1)
