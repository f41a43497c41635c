-- The units of a generated program. Each has one function, which calls those of one or two other units.
use Rattle.std.specs.Prelude.{ℕ, ◌+◌, ◌-◌, ◌*◌, ◌==◌, nat_lt, if◌then◌else◌, List, [], ◌∷◌, map, codes, decimal}
use Rattle.std.specs.List.{concat, range_with_len}
use Rattle.tp_gen.specs.Draws.{state_after, drawn}
use Rattle.tp_gen.specs.declared.units.DrawnUnit.{DrawnUnit}

-- The numbers of units, which count from 1, without a unit's own: the one in this place, where places count from 0.
abbrev pub other_unit : ℕ → ℕ → ℕ
other_unit own place = if nat_lt (place + 1) own then place + 1 else place + 2

-- the unit of this number among so many, by the five draws behind a state
abbrev pub unit_behind : ℕ → ℕ → ℕ → DrawnUnit
unit_behind state units number = record {
  number = number;
  first = other_unit number (drawn state 1 (units - 1));
  second = other_unit number (drawn state 2 (units - 1));
  base = drawn state 3 1000;
  factor = drawn state 4 100;
  step = 1 + drawn state 5 2;
}

-- the unit that is drawn behind so many others
abbrev pub unit_in : ℕ → ℕ → ℕ → DrawnUnit
unit_in seed units place = unit_behind (state_after seed (5 * place)) units (place + 1)

-- all units, in the order of their numbers
abbrev pub units_of : ℕ → ℕ → List DrawnUnit
units_of seed units = map (unit_in seed units) (range_with_len 0 units)

-- the other units that are used, each named once
abbrev pub uses_text : ℕ → ℕ → List ℕ
uses_text first second =
    if first == second then concat (codes "uses G" ∷ decimal first ∷ codes ";" ∷ [])
    else concat (codes "uses G" ∷ decimal first ∷ codes ", G" ∷ decimal second ∷ codes ";" ∷ [])

abbrev pub header_text : ℕ → List ℕ
header_text number = concat (codes "function F" ∷ decimal number ∷ codes "(n: Integer): Integer;" ∷ [])

-- the calls of the two others: the one of the number that is less by the step, the other of one less than that
abbrev pub calls_text : DrawnUnit → List ℕ
calls_text unit = concat (
    codes "F" ∷ decimal unit.first ∷ codes "(n - " ∷ decimal unit.step ∷ codes ") + F"
    ∷ decimal unit.second ∷ codes "(n - " ∷ decimal (unit.step + 1) ∷ codes ")"
    ∷ [])

-- what the function of a unit does: up to 0 it gives the base, and above it what the two others give of less
unfoldable pub statement_text : DrawnUnit → List ℕ
statement_text unit = concat (
    codes "if n <= 0 then F" ∷ decimal unit.number ∷ codes " := " ∷ decimal unit.base ∷ codes "\n"
    ∷ codes "else F" ∷ decimal unit.number ∷ codes " := " ∷ calls_text unit ∷ codes " * " ∷ decimal unit.factor ∷ codes "\n"
    ∷ [])

-- the source of a unit
unfoldable pub unit_text : DrawnUnit → List ℕ
unit_text unit = concat (
    codes "{$F+,O+} unit G" ∷ decimal unit.number ∷ codes ";\n"
    ∷ codes "interface\n"
    ∷ header_text unit.number ∷ codes "\n"
    ∷ codes "implementation\n"
    ∷ uses_text unit.first unit.second ∷ codes "\n"
    ∷ header_text unit.number ∷ codes "\n"
    ∷ codes "begin\n"
    ∷ statement_text unit
    ∷ codes "end;\n"
    ∷ codes "end.\n"
    ∷ [])
