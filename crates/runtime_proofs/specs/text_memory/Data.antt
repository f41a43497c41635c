-- What the runtime's routines on text keep in memory: an item buffer, and the byte that was read ahead.
use Rattle.std.specs.Prelude.{◌≡◌, ℕ, ◌+◌, ◌≤◌, ◌<◌, List, [], ◌∷◌, replicate, Some}
use Rattle.flat_code.specs.declared.memory.Place.{Place}
use Rattle.flat_code.specs.Memory.{Cells, address_of}
use Rattle.flat_code.specs.Program.{Key, Datum, FlatProgram, Choice, text_unit}
use Rattle.flat_code.specs.Meaning.{stack_top}
use Rattle.runtime_proofs.specs.strings_in_memory.Strings.{HasBytes, IsReached, IsOffStack, place}

-- ---- the item buffer: 256 blanks, and room for 256 bytes

abbrev pub item_key : Key
item_key = record { unit = text_unit; number = 0 }

abbrev pub blank_bytes : List ℕ
blank_bytes = replicate 256 32

abbrev pub item_datum : Datum
item_datum = record { size = 512; first = blank_bytes }

-- ---- the byte ahead: a word that is 256 where no byte was read ahead, else the next byte of the input, which is 26 at its end

abbrev pub ahead_key : Key
ahead_key = record { unit = text_unit; number = 1 }

abbrev pub nothing_ahead : ℕ
nothing_ahead = 256

abbrev pub ahead_datum : Datum
ahead_datum = record { size = 2; first = 0 ∷ 1 ∷ [] }

-- with this word ahead and this input that was not read yet, the program's input is so
pub data IsLeft : ℕ → List ℕ → List ℕ → Type 0 where
  none : (input : List ℕ) → IsLeft 256 input input
  byte : (b : ℕ) (input : List ℕ) → b < 256 → IsLeft b input (b ∷ input)
  ended : IsLeft 26 [] []

-- ---- where they lie

abbrev pub item_place : Choice → ℕ → Place
item_place choice item = place choice.data_segment item

abbrev pub ahead_place : Choice → ℕ → Place
ahead_place choice ahead = place choice.data_segment ahead

-- both lie at these offsets of the data segment, apart from each other and from the stack
pub record HasText (program : FlatProgram) (choice : Choice) (item ahead : ℕ) : Type 0 where
  pub item_is : choice.datum item_key ≡ Some item
  pub ahead_is : choice.datum ahead_key ≡ Some ahead
  pub item_small : item + 512 ≤ 65520
  pub ahead_small : ahead + 2 ≤ 65520
  pub segment : choice.data_segment < 65536
  pub item_off : IsOffStack choice (stack_top program) (item_place choice item) 512
  pub ahead_off : IsOffStack choice (stack_top program) (ahead_place choice ahead) 2
  pub apart : (i j : ℕ) → i < 512 → j < 2 → address_of (item_place choice item) i ≡ address_of (ahead_place choice ahead) j → ⊥

-- the buffer as routines find it and leave it
pub record HasItem (choice : Choice) (item : ℕ) (m : Cells) : Type 0 where
  pub blanks : HasBytes m (item_place choice item) 0 blank_bytes
  pub room : IsReached m (item_place choice item) 512
