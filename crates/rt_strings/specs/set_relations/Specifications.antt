-- What the runtime promises of the relations of sets and of `in`.
use Rattle.std.specs.Prelude.{◌≡◌, ℕ, ◌<◌, Bool, true, List, [], ◌∷◌}
use Rattle.common_values.specs.Sets.{contains, is_subset, is_same, is_member}
use Rattle.flat_code.specs.declared.memory.Place.{Place}
use Rattle.flat_code.specs.Memory.{word_bytes}
use Rattle.flat_code.specs.Program.{FlatProgram, Choice, runtime_key}
use Rattle.flat_code.specs.Meaning.{Frame, State, truth}
use Rattle.flat_code.specs.Gives.{KeepsRest, HasStack, Ends, AreWords}
use Rattle.runtime_proofs.specs.strings_in_memory.Strings.{IsOffStack, place}
use Rattle.runtime_proofs.specs.string_loops.Counts.{long_value}
use Rattle.rt_strings.specs.sets.Sets.{HasSet}

abbrev pub same_number : ℕ
same_number = 534

abbrev pub subset_number : ℕ
subset_number = 535

abbrev pub member_number : ℕ
member_number = 536

-- a set of ordinals from 0 to 255 that can be read
pub record CanTest (choice : Choice) (sp : ℕ) (s : State) (p : Place) (set : List ℕ) : Type 0 where
  pub there : HasSet s.cells p set
  pub off : IsOffStack choice sp p 32
  pub small : (element : ℕ) → contains set element ≡ true → element < 256

-- The result is 1 where the relation holds, else 0.
abbrev pub Relates : FlatProgram → Choice → ℕ → (List ℕ → List ℕ → Bool) → Type 0
Relates program choice number relation =
    (left_segment left right_segment right : ℕ) (a b : List ℕ) (f : Frame) (s : State) → AreWords 4 (left_segment ∷ left ∷ right_segment ∷ right ∷ []) → HasStack program 64 f → CanTest choice f.sp s (place left_segment left) a → CanTest choice f.sp s (place right_segment right) b →
    Ends program choice (runtime_key number) (λ address. ⊥)
    (λ after bytes. (bytes ≡ word_bytes (truth (relation a b))) × KeepsRest s after)
    64 2048 (left_segment ∷ left ∷ right_segment ∷ right ∷ []) f s

abbrev pub TellsSame : FlatProgram → Choice → Type 0
TellsSame program choice = Relates program choice same_number is_same

abbrev pub TellsSubset : FlatProgram → Choice → Type 0
TellsSubset program choice = Relates program choice subset_number is_subset

-- The result is 1 where the number is in the set, else 0.
abbrev pub TellsMember : FlatProgram → Choice → Type 0
TellsMember program choice =
    (low high segment at : ℕ) (set : List ℕ) (f : Frame) (s : State) → AreWords 4 (low ∷ high ∷ segment ∷ at ∷ []) → HasStack program 64 f → CanTest choice f.sp s (place segment at) set →
    Ends program choice (runtime_key member_number) (λ address. ⊥)
    (λ after bytes. (bytes ≡ word_bytes (truth (is_member set (long_value low high)))) × KeepsRest s after)
    0 64 (low ∷ high ∷ segment ∷ at ∷ []) f s
