use Rattle.std.proofs.Common.{◌≡◌, Ok, map, ap, sym, ◌∙◌}
use Rattle.typed_tree.specs.Expressions.{Expression, view_expr}
use Rattle.typed_tree.specs.Statements.{Statement, Case, view_stmt}
use Rattle.tp_check_stmt.specs.Typed.{view_arm, arms_of, block_of}
use Rattle.tp_check_stmt.proofs.NodeViews.{case_viewed}
use Rattle.tp_check_stmt.proofs.nodes.case_node.Goals as goal

pub returns : goal.returns
returns c =
    let by = c.in_ok-selector.selector in
    let box = c.in_ok-other.other in
    let s : view_expr by.value ≡ view_expr c.args.selector = cc c.in_ok-selector.ensures.ok in
    let v : view_stmt box.value ≡ block_of (map view_stmt c.args.other.items) = cc (c.in_ok-other.ensures.ok, c.block_of.ensures) in
    ap (λ (s : Statement). Ok s)
    (sym (case_viewed by c.args.arms box ∙ ap (λ (z : Statement). Case (view_expr by.value) (arms_of (map view_arm c.args.arms.items)) z) v
    ∙ ap (λ (e : Expression). Case e (arms_of (map view_arm c.args.arms.items)) (block_of (map view_stmt c.args.other.items))) s))
