use Rattle.std.proofs.Common.{◌≡◌, ap, ◌∙◌}
use Rattle.typed_tree.specs.Expressions.{SetOf, view_expr, view_elements}
use Rattle.typed_tree.proofs.Views.{view_set}
use Rattle.typing_rules.proofs.sorts.sort_of.Goals as goal

pub returns-in-SetOf : goal.returns-in-SetOf
returns-in-SetOf c =
    let e : view_expr c.args.expr.now ≡ SetOf c.in-SetOf.ty (view_elements c.in-SetOf.elements.items) =
    ap view_expr c.in-SetOf.is ∙ view_set c.in-SetOf.ty c.in-SetOf.elements in
    let n = rw c.as_slice.ensures.value at c.sort_of_set.ensures in
    rw e n
