use Rattle.std.proofs.Common.{◌≡◌, max, drop}
use Rattle.typed_tree.specs.Statements.{view_stmts, view_arms}
use Rattle.typed_tree.specs.Slots.{capped}
use Rattle.typed_tree.specs.Needs.{statements_need, arms_need}
use Rattle.typed_tree.proofs.statement_needs.+statement_needs.Given as goal

abbrev pub invariant-need_of_stmts-loop-stmt : goal.invariant-need_of_stmts-loop-stmt
invariant-need_of_stmts-loop-stmt l =
    capped (statements_need l.types.types (view_stmts l.statements))
    ≡ max l.most (capped (statements_need l.types.types (view_stmts (drop l.stmt-index l.statements))))

abbrev pub invariant-need_of_arms-loop-arm : goal.invariant-need_of_arms-loop-arm
invariant-need_of_arms-loop-arm l =
    capped (arms_need l.types.types (view_arms l.arms))
    ≡ max l.most (capped (arms_need l.types.types (view_arms (drop l.arm-index l.arms))))
