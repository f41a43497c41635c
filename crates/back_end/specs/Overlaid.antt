-- Which units of a program are overlaid, and whether they can be.
use Rattle.std.specs.Prelude.{◌≡◌, ℕ, Bool, not, ◌&&◌, if◌then◌else◌, List, [], ◌∷◌, Option, Some, None}
use Rattle.std.specs.List.{list_any}
use Rattle.type_layout.specs.Words.{same_bytes}
use Rattle.typed_tree.specs.declared.units.Unit.{Unit as TypedUnit}
use Rattle.typed_tree.specs.declared.units.Program.{Program}
use Rattle.tp_meaning.specs.Programs.{overlaid}

-- whether a list of names has this one
abbrev pub is_among : List (List ℕ) → List ℕ → Bool
is_among names name = list_any (same_bytes name) names

abbrev pub names_among : List (List ℕ) → List TypedUnit → List (List ℕ)
names_among names [] = []
names_among names (unit ∷ units) = if is_among names unit.name then unit.name ∷ names_among names units else names_among names units

-- the names of the overlaid units, in the order of initialisation
abbrev pub overlaid_names : Program → List (List ℕ)
overlaid_names program = names_among (overlaid program) program.units

-- it is overlaid, and wasn't compiled for that
abbrev pub is_unfit : List (List ℕ) → TypedUnit → Bool
is_unfit names unit = is_among names unit.name && not unit.overlayable

abbrev pub first_unfit_among : List (List ℕ) → List TypedUnit → Option (List ℕ)
first_unfit_among names [] = None
first_unfit_among names (unit ∷ units) = if is_unfit names unit then Some unit.name else first_unfit_among names units

-- the first overlaid unit that wasn't compiled for that
abbrev pub first_unfit : Program → Option (List ℕ)
first_unfit program = first_unfit_among (overlaid program) program.units

-- each overlaid unit was compiled for that
abbrev pub AreOverlayable : Program → Type 0
AreOverlayable program = first_unfit program ≡ None
