use Rattle.std.proofs.Common.{◌≡◌, map, take}
use Rattle.unit_interface.specs.Merge.{renumbered_param}
use Rattle.unit_interface.proofs.renumber.params_of.Given as goal

abbrev pub invariant-loop-param : goal.invariant-loop-param
invariant-loop-param l = l.copy ≡ map (renumbered_param l.ids) (take l.param-index l.params)
