use Rattle.std.proofs.Common.{◌≡◌, ap, sym, ◌∙◌}
use Rattle.syntax_tree.specs.declared.expression.Factor.{Factor}
use Rattle.syntax_tree.specs.expression_tree.Trees.{call, begins, view_factor, view_designator, view_arguments}
use Rattle.syntax_tree.proofs.expression_tree.Views.{view_call}
use Rattle.tp_check_stmt.specs.Arguments.{named_call}
use Rattle.tp_check_stmt.proofs.arguments.+levels.Goals as goal

pub call_in_factor-returns-in-Call : goal.call_in_factor-returns-in-Call
call_in_factor-returns-in-Call t c =
    let one = c.in-Call in
    let e : named_call (view_factor c.args.tree.now) ≡ named_call (call (begins one.callee) (view_designator one.callee) (view_arguments one.arguments.items)) =
    ap (λ (x : Factor). named_call (view_factor x)) one.is ∙ ap named_call (view_call one.callee one.arguments) in
    let n = rw c.as_slice.ensures.value at c.call_by.ensures in
    n ∙ sym e
