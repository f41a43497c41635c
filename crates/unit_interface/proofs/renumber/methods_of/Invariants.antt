use Rattle.std.proofs.Common.{◌≡◌, map, take}
use Rattle.unit_interface.specs.Merge.{renumbered_method}
use Rattle.unit_interface.proofs.renumber.methods_of.Given as goal

abbrev pub invariant-loop-method : goal.invariant-loop-method
invariant-loop-method l = l.copy ≡ map (renumbered_method l.ids l.unit) (take l.method-index l.methods)
