use Rattle.std.proofs.Common.{◌≡◌, drop}
use Rattle.std.specs.List.{list_all}
use Rattle.lowerable.specs.Lowerable.{is_lowerable_routine}
use Rattle.lowerable.proofs.units.are_lowerable_routines.Given as goal

abbrev pub invariant-loop-number : goal.invariant-loop-number
invariant-loop-number l = list_all (is_lowerable_routine l.units l.unit) l.unit.routines ≡ list_all (is_lowerable_routine l.units l.unit) (drop l.number l.unit.routines)
