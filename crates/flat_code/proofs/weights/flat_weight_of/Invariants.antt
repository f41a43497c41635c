use Rattle.std.proofs.Common.{◌≡◌, take, map}
use Rattle.std.specs.List.{sum_by}
use Rattle.flat_code.specs.Plain.{view_routine}
use Rattle.flat_code.specs.Weights.{capped, routine_weight}
use Rattle.flat_code.proofs.weights.flat_weight_of.Given as goal

abbrev pub invariant-loop-routine : goal.invariant-loop-routine
invariant-loop-routine l = l.sum ≡ capped (sum_by routine_weight (map view_routine (take l.routine-index l.unit.routines)))
