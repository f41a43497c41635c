-- What holds of every generated program: it calls functions that are there, and comes to an end.
use Rattle.std.specs.Prelude.{◌≡◌, ◌≢◌, ℕ, ◌≤◌, map}
use Rattle.std.specs.List.{All, range_with_len}
use Rattle.tp_gen.specs.declared.units.DrawnUnit.{DrawnUnit}
use Rattle.tp_gen.specs.Units.{units_of}
use Rattle.tp_gen.specs.Programs.{call_of}

-- one of so many units, whose numbers count from 1
pub record IsUnit (units number : ℕ) : Type 0 where
  pub least : 1 ≤ number
  pub greatest : number ≤ units

-- A unit calls other units, at numbers that are less than its own.
pub record CallsOthers (units : ℕ) (unit : DrawnUnit) : Type 0 where
  pub first : IsUnit units unit.first
  pub first_other : unit.first ≢ unit.number
  pub second : IsUnit units unit.second
  pub second_other : unit.second ≢ unit.number
  pub less : 1 ≤ unit.step

-- each unit has its number, by its place
abbrev pub AreNumbered : Type 0
AreNumbered = (seed units : ℕ) → map (λ unit. unit.number) (units_of seed units) ≡ range_with_len 1 units

abbrev pub AllCallOthers : Type 0
AllCallOthers = (seed units : ℕ) → 2 ≤ units → All (CallsOthers units) (units_of seed units)

-- the program calls the function of one of its units
abbrev pub CallsUnit : Type 0
CallsUnit = (seed units : ℕ) → 1 ≤ units → IsUnit units (call_of seed units).function
