use Rattle.std.proofs.Common.{◌≡◌, ◌+◌, drop}
use Rattle.common_values.specs.Numerals.{IsBounded, numeral_from}
use Rattle.common_values.specs.declared.numerals.Stage.TheVariants as stages
use Rattle.common_values.proofs.numerals.numeral_of.Given as goal

abbrev pub invariant-loop-i : goal.invariant-loop-i
invariant-loop-i l = (numeral_from l.stage (l.i + 1) (drop l.i l.text) ≡ numeral_from stages.Start 1 l.text) × IsBounded l.stage
