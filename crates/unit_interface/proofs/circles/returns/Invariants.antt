use Rattle.std.proofs.Common.{◌≡◌}
use Rattle.unit_interface.specs.Circles.{reach}
use Rattle.unit_interface.proofs.circles.returns.Given as goal

abbrev pub invariant-loop-round : goal.invariant-loop-round
invariant-loop-round l = l.reach.items ≡ reach l._round l.edges l.place
