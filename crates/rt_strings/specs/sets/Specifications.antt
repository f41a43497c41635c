-- What the runtime promises of the operators on sets.
use Rattle.std.specs.Prelude.{◌≡◌, ℕ, List, [], ◌∷◌}
use Rattle.common_values.specs.Sets.{union, difference, intersection}
use Rattle.flat_code.specs.declared.memory.Place.{Place}
use Rattle.flat_code.specs.Program.{FlatProgram, Choice, runtime_key}
use Rattle.flat_code.specs.Meaning.{Frame, State}
use Rattle.flat_code.specs.Gives.{KeepsRest, HasStack, Ends, AreWords}
use Rattle.runtime_proofs.specs.strings_in_memory.Strings.{IsReached, IsOffStack, IsIn, CanMove, place}
use Rattle.rt_strings.specs.sets.Sets.{HasSet}

abbrev pub union_number : ℕ
union_number = 531

abbrev pub difference_number : ℕ
difference_number = 532

abbrev pub intersection_number : ℕ
intersection_number = 533

-- two sets may be combined in a variable of 32 bytes: each may stand there, or apart
pub record CanCombine (choice : Choice) (sp : ℕ) (s : State) (to left right : Place) (a b : List ℕ) : Type 0 where
  pub left_there : HasSet s.cells left a
  pub right_there : HasSet s.cells right b
  pub target : IsReached s.cells to 32
  pub target_off : IsOffStack choice sp to 32
  pub left_off : IsOffStack choice sp left 32
  pub right_off : IsOffStack choice sp right 32
  pub left_aside : CanMove to left 32
  pub right_aside : CanMove to right 32

-- The target gets what an operator makes of both.
abbrev pub Combines : FlatProgram → Choice → ℕ → (List ℕ → List ℕ → List ℕ) → Type 0
Combines program choice number operator =
    (to_segment to left_segment left right_segment right : ℕ) (a b : List ℕ) (f : Frame) (s : State) → AreWords 6 (to_segment ∷ to ∷ left_segment ∷ left ∷ right_segment ∷ right ∷ []) → HasStack program 64 f → CanCombine choice f.sp s (place to_segment to) (place left_segment left) (place right_segment right) a b →
    Ends program choice (runtime_key number) (IsIn (place to_segment to) 32)
    (λ after bytes. (bytes ≡ []) × HasSet after.cells (place to_segment to) (operator a b) × KeepsRest s after)
    64 2048 (to_segment ∷ to ∷ left_segment ∷ left ∷ right_segment ∷ right ∷ []) f s

abbrev pub Unites : FlatProgram → Choice → Type 0
Unites program choice = Combines program choice union_number union

abbrev pub TakesAway : FlatProgram → Choice → Type 0
TakesAway program choice = Combines program choice difference_number difference

abbrev pub Intersects : FlatProgram → Choice → Type 0
Intersects program choice = Combines program choice intersection_number intersection
