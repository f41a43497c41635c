use Rattle.std.proofs.Common.{◌≡◌}
use Rattle.tp_check_expr.specs.Owners.{method_before}
use Rattle.tp_check_expr.proofs.owners.method_block.Given as goal

abbrev pub invariant-loop-number : goal.invariant-loop-number
invariant-loop-number l = l.method ≡ method_before l.scope l.number
