use Rattle.std.proofs.Common.{◌≡◌, ap, ◌∙◌}
use Rattle.typed_tree.specs.Statements.{view_stmt, view_stmts, Block}
use Rattle.typed_tree.proofs.StatementViews.{view_block}
use Rattle.literal_programs.proofs.reading.+statements.Goals as goal

pub add_statement-returns-in-Block : goal.add_statement-returns-in-Block
add_statement-returns-in-Block t c =
    let e : view_stmt c.args.statement.now ≡ Block (view_stmts c.in-Block.statements.items) =
    ap view_stmt c.in-Block.is ∙ view_block c.in-Block.statements in
    let n = rw c.as_slice.ensures.value at c.add_statements.ensures in
    rw e n
