use Rattle.std.proofs.Common.{◌≡◌, ◌≤◌}
use Rattle.tp_check_expr.specs.Owners.{with_depth}
use Rattle.tp_check_expr.proofs.owners.with_depth.Given as goal

abbrev pub invariant-loop-number : goal.invariant-loop-number
invariant-loop-number l = record {
  counted : l.depth ≡ with_depth l.scope l.number;
  few : l.depth ≤ l.number;
}
