use Rattle.std.specs.Prelude.{All, take}
use Rattle.checked_front_end.specs.Known.{IsKept}
use Rattle.checked_front_end.proofs.known.are_kept.Given as goal

abbrev pub invariant-loop-unit : goal.invariant-loop-unit
invariant-loop-unit l = All IsKept (take l.unit-index l.units)
