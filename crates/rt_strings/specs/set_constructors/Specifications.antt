-- What the runtime promises of the constructor of a set.
use Rattle.std.specs.Prelude.{◌≡◌, ℕ, ◌<◌, List, [], ◌∷◌}
use Rattle.common_values.specs.Sets.{with_range}
use Rattle.flat_code.specs.declared.memory.Place.{Place}
use Rattle.flat_code.specs.Program.{FlatProgram, Choice, runtime_key}
use Rattle.flat_code.specs.Meaning.{Frame, State}
use Rattle.flat_code.specs.Gives.{KeepsRest, HasStack, Ends, AreWords}
use Rattle.runtime_proofs.specs.strings_in_memory.Strings.{IsOffStack, IsIn, place}
use Rattle.rt_strings.specs.sets.Sets.{HasSet}

abbrev pub include_number : ℕ
include_number = 537

-- a set that elements may be added to
pub record CanInclude (choice : Choice) (sp : ℕ) (s : State) (p : Place) (set : List ℕ) : Type 0 where
  pub there : HasSet s.cells p set
  pub off : IsOffStack choice sp p 32

-- The set gets the ordinals from the low one to the high one too; none where the low one is above the high one.
abbrev pub Includes : FlatProgram → Choice → Type 0
Includes program choice =
    (segment at low high : ℕ) (set : List ℕ) (f : Frame) (s : State) → AreWords 4 (segment ∷ at ∷ low ∷ high ∷ []) → low < 256 → high < 256 → HasStack program 64 f → CanInclude choice f.sp s (place segment at) set →
    Ends program choice (runtime_key include_number) (IsIn (place segment at) 32)
    (λ after bytes. (bytes ≡ []) × HasSet after.cells (place segment at) (with_range set low high) × KeepsRest s after)
    512 16384 (segment ∷ at ∷ low ∷ high ∷ []) f s
