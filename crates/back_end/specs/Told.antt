-- What the linker is told of units, beside their code.
use Rattle.std.specs.Prelude.{◌≡◌, ℕ, Bool, true, false, ◌++◌, List, [], ◌∷◌, map, Option}
use Rattle.flat_code.specs.declared.unit.FlatUnit.{FlatUnit}
use Rattle.smart_linker.specs.declared.unit.LinkUnit.{LinkUnit}
use Rattle.typed_tree.specs.declared.units.Unit.{Unit as TypedUnit}
use Rattle.back_end.specs.Overlaid.{is_among}

pub record Told : Type 0 where
  pub name : List ℕ
  pub initial : Option ℕ
  pub overlayable : Bool
  pub overlaid : Bool
  pub marked : Bool

abbrev pub told : LinkUnit → Told
told unit = record { name = unit.name; initial = unit.initial; overlayable = unit.overlayable; overlaid = unit.overlaid; marked = unit.marked }

-- of a unit of a program that overlays those of these names
abbrev pub told_of : List (List ℕ) → TypedUnit → Told
told_of names unit = record { name = unit.name; initial = unit.initial; overlayable = unit.overlayable; overlaid = is_among names unit.name; marked = true }

abbrev pub first_of : List (List ℕ) → List ℕ
first_of [] = []
first_of (name ∷ names) = name

-- of a unit of the runtime
abbrev pub told_of_runtime : FlatUnit → Told
told_of_runtime unit = record { name = first_of unit.names; initial = unit.initial; overlayable = false; overlaid = false; marked = true }

-- Units to link: those of a program that overlays some by these names, and behind them those of the runtime.
pub record AreUnitsOf (names : List (List ℕ)) (typed : List TypedUnit) (units : List LinkUnit) : Type 0 where
  pub runtime : List FlatUnit
  pub told_so : map told units ≡ map (told_of names) typed ++ map told_of_runtime runtime
