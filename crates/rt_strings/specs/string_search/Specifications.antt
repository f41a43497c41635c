-- What the runtime promises of Pos.
use Rattle.std.specs.Prelude.{◌≡◌, ℕ, ◌+◌, List, [], ◌∷◌, length}
use Rattle.common_values.specs.Strings.{position_of}
use Rattle.flat_code.specs.declared.memory.Place.{Place}
use Rattle.flat_code.specs.Memory.{word_bytes}
use Rattle.flat_code.specs.Program.{FlatProgram, Choice, runtime_key}
use Rattle.flat_code.specs.Meaning.{Frame, State}
use Rattle.flat_code.specs.Gives.{KeepsRest, HasStack, Ends, AreWords}
use Rattle.runtime_proofs.specs.strings_in_memory.Strings.{HasString, IsOffStack, place}

abbrev pub position_number : ℕ
position_number = 530

-- a string that can be searched, or searched for
pub record CanSearch (choice : Choice) (sp : ℕ) (s : State) (p : Place) (text : List ℕ) : Type 0 where
  pub there : HasString s.cells p text
  pub off : IsOffStack choice sp p (1 + length text)

-- The result is the first place of the part in the text, or 0.
abbrev pub Searches : FlatProgram → Choice → Type 0
Searches program choice =
    (part_segment part text_segment text : ℕ) (t whole : List ℕ) (f : Frame) (s : State) → AreWords 4 (part_segment ∷ part ∷ text_segment ∷ text ∷ []) → HasStack program 64 f → CanSearch choice f.sp s (place part_segment part) t → CanSearch choice f.sp s (place text_segment text) whole →
    Ends program choice (runtime_key position_number) (λ address. ⊥)
    (λ after bytes. (bytes ≡ word_bytes (position_of t whole)) × KeepsRest s after)
    66304 2097152 (part_segment ∷ part ∷ text_segment ∷ text ∷ []) f s
