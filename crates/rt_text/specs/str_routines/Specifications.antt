-- What the runtime promises of Str.
use Rattle.std.specs.Prelude.{◌≡◌, ℕ, ◌+◌, ◌<◌, ◌⊎◌, List, [], ◌∷◌, length}
use Rattle.common_values.specs.Written.{str_text}
use Rattle.flat_code.specs.declared.memory.Place.{Place}
use Rattle.flat_code.specs.Memory.{address_of}
use Rattle.flat_code.specs.Program.{FlatProgram, Choice, runtime_key}
use Rattle.flat_code.specs.Meaning.{Frame, State}
use Rattle.flat_code.specs.Gives.{KeepsRest, HasStack, Ends, AreWords}
use Rattle.runtime_proofs.specs.strings_in_memory.Strings.{HasString, IsReached, IsOffStack, IsIn, place}
use Rattle.runtime_proofs.specs.text_memory.Data.{HasItem, item_place}
use Rattle.rt_text.specs.write_text.Specifications.{IsRoom, width_of}
use Rattle.rt_text.specs.write_numbers.Specifications.{long_text}

abbrev pub str_number : ℕ
str_number = 269

-- a string variable of so many bytes that lies apart from the item buffer
pub record CanStr (choice : Choice) (item sp : ℕ) (s : State) (to : Place) (size : ℕ) : Type 0 where
  pub small : size < 256
  pub target : IsReached s.cells to (1 + size)
  pub target_off : IsOffStack choice sp to (1 + size)
  pub buffer : HasItem choice item s.cells
  pub apart : (i j : ℕ) → i < 512 → j < 1 + size → address_of (item_place choice item) i ≡ address_of to j → ⊥

-- the text that the variable gets
abbrev pub str_of : ℕ → ℕ → ℕ → ℕ → List ℕ
str_of size low high width = str_text size (width_of width) (long_text low high)

-- the variable holds a text, and the item buffer is there as before
pub record GetsText (choice : Choice) (item : ℕ) (to : Place) (text : List ℕ) (s after : State) (bytes : List ℕ) : Type 0 where
  pub nothing : bytes ≡ []
  pub value : HasString after.cells to text
  pub buffer : HasItem choice item after.cells
  pub rest : KeepsRest s after

-- The variable gets the decimal text of the number in its field, cut to its size; what stands behind that stays.
abbrev pub MakesText : FlatProgram → Choice → ℕ → Type 0
MakesText program choice item =
    (segment offset size low high width : ℕ) (f : Frame) (s : State) → AreWords 6 (segment ∷ offset ∷ size ∷ low ∷ high ∷ width ∷ []) → HasStack program 64 f → CanStr choice item f.sp s (place segment offset) size →
    Ends program choice (runtime_key str_number) (λ x. IsRoom choice item x ⊎ IsIn (place segment offset) (1 + length (str_of size low high width)) x)
    (GetsText choice item (place segment offset) (str_of size low high width) s) 544 9216 (segment ∷ offset ∷ size ∷ low ∷ high ∷ width ∷ []) f s
