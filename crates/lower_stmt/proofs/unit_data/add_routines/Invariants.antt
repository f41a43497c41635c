use Rattle.std.proofs.Common.{◌≡◌, ◌++◌, map, drop}
use Rattle.flat_code.specs.Plain.{view_datum}
use Rattle.lower_places.specs.Data.{literals_of_routines}
use Rattle.lower_stmt.proofs.unit_data.add_routines.Given as goal

abbrev pub invariant-loop-routine : goal.invariant-loop-routine
invariant-loop-routine l =
    map view_datum l.initial.made ++ literals_of_routines l.routines
    ≡ map view_datum l.made ++ literals_of_routines (drop l.routine-index l.routines)
