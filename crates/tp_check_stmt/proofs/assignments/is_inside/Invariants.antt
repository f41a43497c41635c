use Rattle.std.proofs.Common.{◌≡◌, ◌-◌, take}
use Rattle.std.specs.List.{list_any}
use Rattle.scopes.specs.Environment.{first_open}
use Rattle.tp_check_stmt.specs.Assignments.{is_open_body}
use Rattle.tp_check_stmt.proofs.assignments.is_inside.Given as goal

abbrev pub invariant-loop-number : goal.invariant-loop-number
invariant-loop-number l = l.inside ≡ list_any (is_open_body l.routine.number) (take (l.number - first_open l.scope) l.scope.blocks)
