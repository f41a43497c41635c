-- Statements and branches as a node has them.
use Rattle.std.proofs.Common.{◌≡◌, List, [], ◌∷◌, map, refl, ap, ◌∙◌, Vec, Box, Global}
use Rattle.typed_tree.specs.declared.expressions.Expr.{Expr}
use Rattle.typed_tree.specs.declared.statements.Stmt.{Stmt}
use Rattle.typed_tree.specs.declared.statements.Stmt.TheVariants as stmt
use Rattle.typed_tree.specs.declared.statements.Arm.{Arm}
use Rattle.typed_tree.specs.Expressions.{view_expr}
use Rattle.typed_tree.specs.Statements.{Statements, Arms, Block, Case, Then, Branch, view_stmt, view_stmts, view_arms}
use Rattle.typed_tree.proofs.StatementViews.{view_block, view_case}
use Rattle.tp_check_stmt.specs.Typed.{view_arm, statements_of, arms_of, block_of}

statements_viewed : (all : List Stmt) → view_stmts all ≡ statements_of (map view_stmt all)
statements_viewed [] = refl
statements_viewed (one ∷ rest) = ap (λ (z : Statements). Then (view_stmt one) z) (statements_viewed rest)

arms_viewed : (all : List Arm) → view_arms all ≡ arms_of (map view_arm all)
arms_viewed [] = refl
arms_viewed (one ∷ rest) = ap (λ (z : Arms). Branch one.labels.items (view_stmt one.body) z) (arms_viewed rest)

pub block_viewed : (all : Vec Stmt Global) → view_stmt (stmt.Block all) ≡ block_of (map view_stmt all.items)
block_viewed all = view_block all ∙ ap (λ (z : Statements). Block z) (statements_viewed all.items)

pub case_viewed : (selector : Box Expr Global) (arms : Vec Arm Global) (other : Box Stmt Global)
    → view_stmt (stmt.Case selector arms other) ≡ Case (view_expr selector.value) (arms_of (map view_arm arms.items)) (view_stmt other.value)
case_viewed selector arms other = view_case selector arms other ∙ ap (λ (z : Arms). Case (view_expr selector.value) z (view_stmt other.value)) (arms_viewed arms.items)
