use Rattle.std.proofs.Common.{◌≡◌, drop}
use Rattle.tp_lexer.specs.Numbers.{value_from}
use Rattle.tp_lexer.proofs.value.value_of.Given as goal

abbrev pub invariant-loop-digit : goal.invariant-loop-digit
invariant-loop-digit l = value_from l.base l.limit l.value (drop l.digit-index l.digits) ≡ value_from l.base l.limit 0 l.digits
