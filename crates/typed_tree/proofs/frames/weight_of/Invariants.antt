use Rattle.std.proofs.Common.{◌≡◌, take}
use Rattle.std.specs.List.{sum_by}
use Rattle.typed_tree.specs.Slots.{capped}
use Rattle.typed_tree.specs.Frames.{routine_weight}
use Rattle.typed_tree.proofs.frames.weight_of.Given as goal

abbrev pub invariant-loop-routine : goal.invariant-loop-routine
invariant-loop-routine l = l.sum ≡ capped (sum_by routine_weight (take l.routine-index l.unit.routines))
