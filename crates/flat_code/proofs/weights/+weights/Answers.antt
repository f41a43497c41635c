use Rattle.std.proofs.Common.{arith, ◌≡◌, ap, ◌∙◌}
use Rattle.flat_code.specs.declared.tree.FlatStmt.{FlatStmt}
use Rattle.flat_code.specs.Tree.{End, If, Loop}
use Rattle.flat_code.specs.View.{view_expr, view_stmt, view_list}
use Rattle.flat_code.proofs.Rows.{view_if, view_loop}
use Rattle.flat_code.proofs.Sums.{weight-at}
use Rattle.flat_code.proofs.weights.+weights.Goals as goal

pub weight_of_stmt-returns-in-If : goal.weight_of_stmt-returns-in-If
weight_of_stmt-returns-in-If t c =
    let e : view_stmt c.args.stmt.now End ≡ If (view_expr c.in-If.test) (view_list c.in-If.yes.items) (view_list c.in-If.no.items) End =
    ap (λ (s : FlatStmt). view_stmt s End) c.in-If.is ∙ view_if c.in-If.test c.in-If.yes c.in-If.no in
    let yes = rw c.as_slice.ensures.value at c.weight_of_list.ensures in
    let no = rw c.as_slice-in-If.ensures.value at c.weight_of_list-in-If.ensures in
    rw e (omega arith)

pub weight_of_stmt-returns-in-Loop : goal.weight_of_stmt-returns-in-Loop
weight_of_stmt-returns-in-Loop t c =
    let e : view_stmt c.args.stmt.now End ≡ Loop (view_list c.in-Loop.body.items) End = ap (λ (s : FlatStmt). view_stmt s End) c.in-Loop.is ∙ view_loop c.in-Loop.body in
    let body = rw c.as_slice-in-Loop.ensures.value at c.weight_of_list-in-Loop.ensures in
    rw e (omega arith)

pub weight_of_list-loop-stmt-preserved : goal.weight_of_list-loop-stmt-preserved
weight_of_list-loop-stmt-preserved t c =
    let step = weight-at c.args.list.now c.loop-stmt.stmt-index c.stmt-item.result (omega arith) c.stmt-item.is in
    omega (arith, step, c.loop-stmt.invariant)
