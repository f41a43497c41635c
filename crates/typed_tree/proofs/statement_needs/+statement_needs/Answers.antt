use Rattle.std.proofs.Common.{arith, ◌≡◌, ap, ◌∙◌}
use Rattle.typed_tree.specs.Expressions.{view_expr}
use Rattle.typed_tree.specs.Statements.{view_stmt, view_stmts, view_arms, Block, Case}
use Rattle.typed_tree.proofs.StatementViews.{view_block, view_case}
use Rattle.typed_tree.proofs.statement_needs.+statement_needs.Goals as goal

pub need_of_stmt-returns-in-Block : goal.need_of_stmt-returns-in-Block
need_of_stmt-returns-in-Block t c =
    let e : view_stmt c.args.stmt.now ≡ Block (view_stmts c.in-Block.statements.items) =
    ap view_stmt c.in-Block.is ∙ view_block c.in-Block.statements in
    rw (e, ← c.as_slice.ensures.value) c.need_of_stmts.ensures

pub need_of_stmt-returns-in-Case : goal.need_of_stmt-returns-in-Case
need_of_stmt-returns-in-Case t c =
    let e : view_stmt c.args.stmt.now ≡ Case (view_expr c.in-Case.selector.value) (view_arms c.in-Case.arms.items) (view_stmt c.in-Case.other.value) =
    ap view_stmt c.in-Case.is ∙ view_case c.in-Case.selector c.in-Case.arms c.in-Case.other in
    let arms = rw c.as_slice-in-Case.ensures.value at c.need_of_arms.ensures in
    let other = rw c.deref-in-Case.ensures at c.need_of_stmt-in-Case.ensures in
    let selector = rw c.deref-in-Case-2.ensures at c.need_of_expr-in-Case.ensures in
    let slot = rw c.deref-in-Case-3.ensures at c.slot_of.ensures.value in
    rw e (omega arith)
