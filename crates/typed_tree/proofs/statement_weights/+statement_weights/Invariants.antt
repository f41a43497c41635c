use Rattle.std.proofs.Common.{◌≡◌, ◌+◌, ◌-◌, ◌^◌, ◌≤◌, drop}
use Rattle.typed_tree.specs.Statements.{view_stmts, view_arms}
use Rattle.typed_tree.specs.Slots.{capped}
use Rattle.typed_tree.specs.Weights.{statements_weight, arms_weight}
use Rattle.typed_tree.proofs.statement_weights.+statement_weights.Given as goal

abbrev pub invariant-weight_of_stmts-loop-stmt : goal.invariant-weight_of_stmts-loop-stmt
invariant-weight_of_stmts-loop-stmt l =
    (l.sum ≤ 2 ^ 64 - 1) × (capped (statements_weight (view_stmts l.statements)) ≡ capped (l.sum + statements_weight (view_stmts (drop l.stmt-index l.statements))))

abbrev pub invariant-weight_of_arms-loop-arm : goal.invariant-weight_of_arms-loop-arm
invariant-weight_of_arms-loop-arm l =
    (l.sum ≤ 2 ^ 64 - 1) × (capped (arms_weight (view_arms l.arms)) ≡ capped (l.sum + arms_weight (view_arms (drop l.arm-index l.arms))))
