use Rattle.std.proofs.Common.{◌≡◌, ◌++◌, map, drop}
use Rattle.flat_code.specs.Plain.{view_datum}
use Rattle.lower_places.specs.Data.{global_datum, global_data}
use Rattle.lower_stmt.proofs.unit_data.globals_of.Given as goal

abbrev pub invariant-loop-global : goal.invariant-loop-global
invariant-loop-global l =
    map view_datum l.made ++ map (global_datum l.unit.types.types) (drop l.global-index l.unit.globals) ≡ global_data l.unit
