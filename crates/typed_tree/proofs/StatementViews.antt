-- Statements round a list that lies in a vector.
use Rattle.std.proofs.Common.{◌≡◌, refl, ap, ◌∙◌, Vec, Box, Global}
use Rattle.typed_tree.specs.declared.expressions.Expr.{Expr}
use Rattle.typed_tree.specs.declared.statements.Stmt.{Stmt, Row_of-Stmt, end_of-Stmt, more_of-Stmt, Row_of-Arm, end_of-Arm, more_of-Arm, items-the_row-Stmt, items_hidden-the_row-Stmt-0, items-the_row-Arm, items_hidden-the_row-Arm-1}
use Rattle.typed_tree.specs.declared.statements.Stmt.TheVariants as stmt
use Rattle.typed_tree.specs.declared.statements.Arm.{Arm}
use Rattle.typed_tree.specs.Expressions.{view_expr}
use Rattle.typed_tree.specs.Statements.{Statements, Arms, Block, Case, Then, Branch, view_stmt, view_stmts, view_stmt_row, view_arms, view_arm_row}

stmt_row : (n : _) (row : Row_of-Stmt n) → view_stmt_row row ≡ view_stmts (items-the_row-Stmt n row)
stmt_row n end_of-Stmt = refl
stmt_row n (more_of-Stmt one rest) = ap (λ (z : Statements). Then (view_stmt one) z) (stmt_row _ rest)

arm_row : (n : _) (row : Row_of-Arm n) → view_arm_row row ≡ view_arms (items-the_row-Arm n row)
arm_row n end_of-Arm = refl
arm_row n (more_of-Arm labels body rest) = ap (λ (z : Arms). Branch labels.items (view_stmt body) z) (arm_row _ rest)

abbrev stmts_of : Stmt → (n : _) × Row_of-Stmt n
stmts_of (stmt.Block' shape statements) = (_, statements)
stmts_of _ = (_, end_of-Stmt)

abbrev arms_of : Stmt → (n : _) × Row_of-Arm n
arms_of (stmt.Case' selector shape arms p other) = (_, arms)
arms_of _ = (_, end_of-Arm)

pub view_block : (statements : Vec Stmt Global) → view_stmt (stmt.Block statements) ≡ Block (view_stmts statements.items)
view_block statements =
    let row = stmts_of (stmt.Block statements) in
    ap (λ (z : Statements). Block z) (stmt_row row.0 row.1 ∙ ap view_stmts (items_hidden-the_row-Stmt-0 statements))

pub view_case : (selector : Box Expr Global) (arms : Vec Arm Global) (other : Box Stmt Global)
    → view_stmt (stmt.Case selector arms other) ≡ Case (view_expr selector.value) (view_arms arms.items) (view_stmt other.value)
view_case selector arms other =
    let row = arms_of (stmt.Case selector arms other) in
    ap (λ (z : Arms). Case (view_expr selector.value) z (view_stmt other.value)) (arm_row row.0 row.1 ∙ ap view_arms (items_hidden-the_row-Arm-1 arms))
