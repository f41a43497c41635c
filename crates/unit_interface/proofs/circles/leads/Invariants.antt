use Rattle.std.proofs.Common.{◌≡◌, drop}
use Rattle.unit_interface.specs.Circles.{leads}
use Rattle.unit_interface.proofs.circles.leads.Given as goal

abbrev pub invariant-loop-one : goal.invariant-loop-one
invariant-loop-one l = leads l.before l.target l.uses ≡ leads l.before l.target (drop l.one-index l.uses)
