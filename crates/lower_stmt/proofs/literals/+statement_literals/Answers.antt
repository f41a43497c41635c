use Rattle.std.proofs.Common.{◌≡◌, ◌++◌, map, refl, sym, ap, ◌∙◌}
use Rattle.typed_tree.specs.Expressions.{view_expr}
use Rattle.typed_tree.specs.Statements.{view_stmt, view_stmts, view_arms}
use Rattle.typed_tree.proofs.StatementViews.{view_block, view_case}
use Rattle.flat_code.specs.Plain.{view_datum}
use Rattle.lower_places.specs.Data.{literals_of, literals_in, literals_in_all, literals_in_arms}
use Rattle.lower_stmt.proofs.DatumRows.{both_parts}
use Rattle.lower_stmt.proofs.literals.+statement_literals.Goals as goal

pub add_stmt-returns-in-Block : goal.add_stmt-returns-in-Block
add_stmt-returns-in-Block t c =
    let e : literals_in (view_stmt c.args.stmt.now) ≡ literals_in_all (view_stmts c.as_slice.result.now) =
    ap literals_in (ap view_stmt c.in-Block.is ∙ view_block c.in-Block.statements) ∙ ap (λ z. literals_in_all (view_stmts z)) (sym c.as_slice.ensures.value) in
    rw e c.add_stmts.ensures

pub add_stmt-returns-in_ok-add_arms-in-Case : goal.add_stmt-returns-in_ok-add_arms-in-Case
add_stmt-returns-in_ok-add_arms-in-Case t c =
    let selector = literals_of (view_expr c.deref-in-Case.result.now) in
    let arms = literals_in_arms (view_arms c.as_slice-in-Case.result.now) in
    let other = literals_in (view_stmt c.deref-in-Case-2.result.now) in
    let all : literals_in (view_stmt c.args.stmt.now) ≡ selector ++ (arms ++ other) =
    ap literals_in (ap view_stmt c.in-Case.is ∙ view_case c.in-Case.selector c.in-Case.arms c.in-Case.other)
    ∙ ap (λ z. literals_of (view_expr z) ++ (literals_in_arms (view_arms c.in-Case.arms.items) ++ literals_in (view_stmt c.in-Case.other.value))) (sym c.deref-in-Case.ensures)
    ∙ ap (λ z. selector ++ (literals_in_arms (view_arms z) ++ literals_in (view_stmt c.in-Case.other.value))) (sym c.as_slice-in-Case.ensures.value)
    ∙ ap (λ z. selector ++ (arms ++ literals_in (view_stmt z))) (sym c.deref-in-Case-2.ensures) in
    let last = both_parts (map view_datum c.add_expr-in-Case.new.made) (map view_datum c.add_arms.new.made) arms other (arms ++ other) c.in_ok-add_arms-in-Case.ensures refl in
    let joined = both_parts (map view_datum c.args.made.now) (map view_datum c.add_expr-in-Case.new.made) selector (arms ++ other) (literals_in (view_stmt c.args.stmt.now)) c.in_ok-add_expr-in-Case.ensures all in
    rw (← (last ∙ joined)) c.add_stmt-in-Case.ensures
