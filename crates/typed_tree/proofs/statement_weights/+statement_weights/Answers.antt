use Rattle.std.proofs.Common.{arith, ◌≡◌, ap, ◌∙◌}
use Rattle.typed_tree.specs.Expressions.{view_expr}
use Rattle.typed_tree.specs.Statements.{view_stmt, view_stmts, view_arms, Block, Case}
use Rattle.typed_tree.proofs.StatementViews.{view_block, view_case}
use Rattle.typed_tree.proofs.statement_weights.+statement_weights.Goals as goal

pub weight_of_stmt-returns-in-Block : goal.weight_of_stmt-returns-in-Block
weight_of_stmt-returns-in-Block t c =
    let e : view_stmt c.args.stmt.now ≡ Block (view_stmts c.in-Block.statements.items) =
    ap view_stmt c.in-Block.is ∙ view_block c.in-Block.statements in
    let n = rw c.as_slice.ensures.value at c.weight_of_stmts.ensures in
    rw e (omega arith)

pub weight_of_stmt-returns-in-Case : goal.weight_of_stmt-returns-in-Case
weight_of_stmt-returns-in-Case t c =
    let e : view_stmt c.args.stmt.now ≡ Case (view_expr c.in-Case.selector.value) (view_arms c.in-Case.arms.items) (view_stmt c.in-Case.other.value) =
    ap view_stmt c.in-Case.is ∙ view_case c.in-Case.selector c.in-Case.arms c.in-Case.other in
    let arms = rw c.as_slice-in-Case.ensures.value at c.weight_of_arms.ensures in
    let other = rw c.deref-in-Case.ensures at c.weight_of_stmt-in-Case.ensures in
    let selector = rw c.deref-in-Case-2.ensures at c.weight_of_expr-in-Case.ensures in
    rw e (omega arith)
