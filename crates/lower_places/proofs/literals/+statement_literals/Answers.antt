use Rattle.std.proofs.Common.{arith, ◌≡◌, ◌+◌, ◌-◌, ◌^◌, min, ap, ◌∙◌, ◌++◌, drop, length, length-append, []}
use Rattle.std.proofs.lemmas.List.{drop_all}
use Rattle.typed_tree.specs.Expressions.{view_expr}
use Rattle.typed_tree.specs.Statements.{view_stmt, view_stmts, view_arms, Block, Case}
use Rattle.typed_tree.proofs.StatementViews.{view_block, view_case}
use Rattle.lower_places.specs.Data.{literals_of, literals_in, literals_in_all, literals_in_arms}
use Rattle.lower_places.proofs.literals.+statement_literals.Goals as goal

pub literals_of_stmt-returns-in-Block : goal.literals_of_stmt-returns-in-Block
literals_of_stmt-returns-in-Block t c =
    let e : view_stmt c.args.stmt.now ≡ Block (view_stmts c.in-Block.statements.items) = ap view_stmt c.in-Block.is ∙ view_block c.in-Block.statements in
    rw (e, ← c.as_slice.ensures.value) c.literals_of_stmts.ensures

pub literals_of_stmt-returns-in-Case : goal.literals_of_stmt-returns-in-Case
literals_of_stmt-returns-in-Case t c =
    let e : view_stmt c.args.stmt.now ≡ Case (view_expr c.in-Case.selector.value) (view_arms c.in-Case.arms.items) (view_stmt c.in-Case.other.value) =
    ap view_stmt c.in-Case.is ∙ view_case c.in-Case.selector c.in-Case.arms c.in-Case.other in
    let arms = rw c.as_slice-in-Case.ensures.value at c.literals_of_arms.ensures in
    let selector = rw c.deref-in-Case.ensures at c.literals_of_expr-in-Case.ensures in
    let other = rw c.deref-in-Case-2.ensures at c.literals_of_stmt-in-Case.ensures in
    let inner = length-append (literals_in_arms (view_arms c.in-Case.arms.items)) (literals_in (view_stmt c.in-Case.other.value)) in
    let all = length-append (literals_of (view_expr c.in-Case.selector.value)) (literals_in_arms (view_arms c.in-Case.arms.items) ++ literals_in (view_stmt c.in-Case.other.value)) in
    rw e (omega (arith, arms, selector, other, inner, all))

pub literals_of_stmts-returns : goal.literals_of_stmts-returns
literals_of_stmts-returns t c =
    let all = c.args.statements.now in
    let past : drop c.loop-stmt.stmt-index all ≡ [] = drop_all c.loop-stmt.stmt-index all (omega arith) in
    let last : min (length (literals_in_all (view_stmts all))) (2 ^ 32 - 1) ≡ min (c.loop-stmt.sum + 0) (2 ^ 32 - 1) = rw past at c.loop-stmt.invariant.1 in
    let small = c.loop-stmt.invariant.0 in
    omega (arith, last, small)

pub literals_of_arms-returns : goal.literals_of_arms-returns
literals_of_arms-returns t c =
    let all = c.args.arms.now in
    let past : drop c.loop-arm.arm-index all ≡ [] = drop_all c.loop-arm.arm-index all (omega arith) in
    let last : min (length (literals_in_arms (view_arms all))) (2 ^ 32 - 1) ≡ min (c.loop-arm.sum + 0) (2 ^ 32 - 1) = rw past at c.loop-arm.invariant.1 in
    let small = c.loop-arm.invariant.0 in
    omega (arith, last, small)
