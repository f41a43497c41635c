use Rattle.std.proofs.Common.{◌≡◌, ◌+◌, ◌-◌, ◌^◌, ◌≤◌, min, drop, length}
use Rattle.typed_tree.specs.Statements.{view_stmts, view_arms}
use Rattle.lower_places.specs.Data.{literals_in_all, literals_in_arms}
use Rattle.lower_places.proofs.literals.+statement_literals.Given as goal

abbrev pub invariant-literals_of_stmts-loop-stmt : goal.invariant-literals_of_stmts-loop-stmt
invariant-literals_of_stmts-loop-stmt l =
    (l.sum ≤ 2 ^ 32 - 1) × (min (length (literals_in_all (view_stmts l.statements))) (2 ^ 32 - 1) ≡ min (l.sum + length (literals_in_all (view_stmts (drop l.stmt-index l.statements)))) (2 ^ 32 - 1))

abbrev pub invariant-literals_of_arms-loop-arm : goal.invariant-literals_of_arms-loop-arm
invariant-literals_of_arms-loop-arm l =
    (l.sum ≤ 2 ^ 32 - 1) × (min (length (literals_in_arms (view_arms l.arms))) (2 ^ 32 - 1) ≡ min (l.sum + length (literals_in_arms (view_arms (drop l.arm-index l.arms)))) (2 ^ 32 - 1))
