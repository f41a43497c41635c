-- What the runtime promises of the comparison of strings.
use Rattle.std.specs.Prelude.{◌≡◌, ℕ, ◌+◌, List, [], ◌∷◌, length}
use Rattle.std.specs.declared.cmp.Ordering.{Ordering}
use Rattle.std.specs.declared.cmp.Ordering.TheVariants.{Less, Equal, Greater}
use Rattle.common_values.specs.Strings.{compared}
use Rattle.flat_code.specs.declared.memory.Place.{Place}
use Rattle.flat_code.specs.Memory.{word_bytes}
use Rattle.flat_code.specs.Program.{FlatProgram, Choice, runtime_key}
use Rattle.flat_code.specs.Meaning.{Frame, State}
use Rattle.flat_code.specs.Gives.{KeepsRest, HasStack, Ends, AreWords}
use Rattle.runtime_proofs.specs.strings_in_memory.Strings.{HasString, IsOffStack, place}

abbrev pub compare_number : ℕ
compare_number = 529

-- the word that tells an order: -1, 0 or 1
abbrev pub order_word : Ordering → ℕ
order_word Less = 65535
order_word Equal = 0
order_word Greater = 1

-- a string that can be read
pub record CanRead (choice : Choice) (sp : ℕ) (s : State) (p : Place) (text : List ℕ) : Type 0 where
  pub there : HasString s.cells p text
  pub off : IsOffStack choice sp p (1 + length text)

-- The result tells the order of the strings; all six relations are its relations to 0.
abbrev pub ComparesStrings : FlatProgram → Choice → Type 0
ComparesStrings program choice =
    (left_segment left right_segment right : ℕ) (a b : List ℕ) (f : Frame) (s : State) → AreWords 4 (left_segment ∷ left ∷ right_segment ∷ right ∷ []) → HasStack program 64 f → CanRead choice f.sp s (place left_segment left) a → CanRead choice f.sp s (place right_segment right) b →
    Ends program choice (runtime_key compare_number) (λ address. ⊥)
    (λ after bytes. (bytes ≡ word_bytes (order_word (compared a b))) × KeepsRest s after)
    256 12288 (left_segment ∷ left ∷ right_segment ∷ right ∷ []) f s
