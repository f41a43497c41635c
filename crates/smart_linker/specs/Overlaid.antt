-- Which units can be overlaid, and which can't be linked with overlays.
use Rattle.std.specs.Prelude.{◌≡◌, ℕ, Bool, not, ◌&&◌, if◌then◌else◌, List, [], ◌∷◌, Option, Some, None, IsTrue}
use Rattle.std.specs.List.{list_any}
use Rattle.smart_linker.specs.declared.unit.LinkUnit.{LinkUnit}

abbrev pub is_overlaid : LinkUnit → Bool
is_overlaid unit = unit.overlaid

abbrev pub has_overlays : List LinkUnit → Bool
has_overlays units = list_any is_overlaid units

-- it is overlaid, and wasn't compiled for that
abbrev pub is_unfit : LinkUnit → Bool
is_unfit unit = unit.overlaid && not unit.overlayable

abbrev pub is_unmarked : LinkUnit → Bool
is_unmarked unit = not unit.marked

-- the name of the first unit of which this is so
abbrev pub first_where : (LinkUnit → Bool) → List LinkUnit → Option (List ℕ)
first_where test [] = None
first_where test (unit ∷ units) = if test unit then Some unit.name else first_where test units

-- each overlaid unit was compiled for that, and beside one the frames of all units are marked
abbrev pub CanBeOverlaid : List LinkUnit → Type 0
CanBeOverlaid units = (first_where is_unfit units ≡ None) × (IsTrue (has_overlays units) → first_where is_unmarked units ≡ None)
