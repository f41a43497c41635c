use Rattle.std.proofs.Common.{take}
use Rattle.front_end.specs.Typed.{AreLawful}
use Rattle.front_end.proofs.units.check_classes.Given as goal

abbrev pub invariant-loop-unit : goal.invariant-loop-unit
invariant-loop-unit l = AreLawful (take l.unit-index l.units)
