use Rattle.std.proofs.Common.{◌≡◌, ◌-◌, ◌≤◌, take, count_by}
use Rattle.scopes.specs.Environment.{first_open}
use Rattle.tp_check_expr.specs.Names.{is_routine}
use Rattle.tp_check_expr.proofs.names.routine_depth.Given as goal

abbrev pub invariant-loop-number : goal.invariant-loop-number
invariant-loop-number l = record {
  counted : l.depth ≡ count_by is_routine (take (l.number - first_open l.scope) l.scope.blocks);
  few : l.depth ≤ l.number;
}
