use Rattle.std.proofs.Common.{◌≡◌, length}
use Rattle.flat_code.specs.Plain.{view_unit}
use Rattle.codegen_8086.proofs.Laid.{Progress}
use Rattle.codegen_8086.proofs.units.generate.Given as goal

abbrev pub invariant-loop-routine : goal.invariant-loop-routine
invariant-loop-routine l =
    (l.numbers.around.home ≡ length l.unit.routines)
    × Progress l.unit.names (view_unit l.unit) l.unit.routines l.routine-index l.bytes l.numbers.stored l.routines
