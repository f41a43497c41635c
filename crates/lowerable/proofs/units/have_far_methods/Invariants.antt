use Rattle.std.proofs.Common.{◌≡◌, drop}
use Rattle.std.specs.List.{list_all}
use Rattle.lowerable.specs.Farness.{has_far_methods}
use Rattle.lowerable.proofs.units.have_far_methods.Given as goal

abbrev pub invariant-loop-number : goal.invariant-loop-number
invariant-loop-number l = list_all (has_far_methods l.units l.unit) l.unit.types.types ≡ list_all (has_far_methods l.units l.unit) (drop l.number l.unit.types.types)
