use Rattle.std.proofs.Common.{◌≡◌, take, map}
use Rattle.unit_interface.specs.Circles.{leads}
use Rattle.unit_interface.proofs.circles.one_step_more.Given as goal

abbrev pub invariant-loop-uses : goal.invariant-loop-uses
invariant-loop-uses l = l.after.items ≡ map (leads l.before l.target) (take l.uses-index l.edges)
