use Rattle.std.proofs.Common.{arith, ◌≡◌, ap, ◌∙◌}
use Rattle.typed_tree.specs.Expressions.{view_expr, view_place, view_receiver, view_args, view_elements, Call, CallVirtual, CallThrough, Std, Make, SetOf}
use Rattle.typed_tree.proofs.Views.{view_set, view_call, view_call_virtual, view_call_through, view_std, view_make}
use Rattle.typed_tree.proofs.weights.+weights.Goals as goal

pub weight_of_expr-returns-in-SetOf : goal.weight_of_expr-returns-in-SetOf
weight_of_expr-returns-in-SetOf t c =
    let e : view_expr c.args.expr.now ≡ SetOf c.in-SetOf.ty (view_elements c.in-SetOf.elements.items) =
    ap view_expr c.in-SetOf.is ∙ view_set c.in-SetOf.ty c.in-SetOf.elements in
    let n = rw c.as_slice.ensures.value at c.weight_of_elements.ensures in
    rw e (omega arith)

pub weight_of_expr-returns-in-Call : goal.weight_of_expr-returns-in-Call
weight_of_expr-returns-in-Call t c =
    let e : view_expr c.args.expr.now ≡ Call c.in-Call.ty c.in-Call.routine (view_receiver c.in-Call.own) (view_args c.in-Call.args.items) =
    ap view_expr c.in-Call.is ∙ view_call c.in-Call.ty c.in-Call.routine c.in-Call.own c.in-Call.args in
    let n = rw c.as_slice-in-Call.ensures.value at c.weight_of_args-args.ensures in
    rw e (omega arith)

pub weight_of_expr-returns-in-CallVirtual : goal.weight_of_expr-returns-in-CallVirtual
weight_of_expr-returns-in-CallVirtual t c =
    let e : view_expr c.args.expr.now ≡ CallVirtual c.in-CallVirtual.ty (view_place c.in-CallVirtual.own.value) c.in-CallVirtual.slot c.in-CallVirtual.checked (view_args c.in-CallVirtual.args.items) =
    ap view_expr c.in-CallVirtual.is ∙ view_call_virtual c.in-CallVirtual.ty c.in-CallVirtual.own c.in-CallVirtual.slot c.in-CallVirtual.checked c.in-CallVirtual.args in
    let p = rw c.deref-in-CallVirtual.ensures at c.weight_of_place-in-CallVirtual.ensures in
    let n = rw c.as_slice-in-CallVirtual.ensures.value at c.weight_of_args-args-in-CallVirtual.ensures in
    rw e (omega arith)

pub weight_of_expr-returns-in-CallThrough : goal.weight_of_expr-returns-in-CallThrough
weight_of_expr-returns-in-CallThrough t c =
    let e : view_expr c.args.expr.now ≡ CallThrough c.in-CallThrough.ty (view_place c.in-CallThrough.place.value) (view_args c.in-CallThrough.args.items) =
    ap view_expr c.in-CallThrough.is ∙ view_call_through c.in-CallThrough.ty c.in-CallThrough.place c.in-CallThrough.args in
    let p = rw c.deref-in-CallThrough.ensures at c.weight_of_place-in-CallThrough.ensures in
    let n = rw c.as_slice-in-CallThrough.ensures.value at c.weight_of_args-args-in-CallThrough.ensures in
    rw e (omega arith)

pub weight_of_expr-returns-in-Std : goal.weight_of_expr-returns-in-Std
weight_of_expr-returns-in-Std t c =
    let e : view_expr c.args.expr.now ≡ Std c.in-Std.ty c.in-Std.number (view_args c.in-Std.args.items) =
    ap view_expr c.in-Std.is ∙ view_std c.in-Std.ty c.in-Std.number c.in-Std.args in
    let n = rw c.as_slice-in-Std.ensures.value at c.weight_of_args.ensures in
    rw e (omega arith)

pub weight_of_expr-returns-in-Make : goal.weight_of_expr-returns-in-Make
weight_of_expr-returns-in-Make t c =
    let e : view_expr c.args.expr.now ≡ Make c.in-Make.ty c.in-Make.routine (view_args c.in-Make.args.items) =
    ap view_expr c.in-Make.is ∙ view_make c.in-Make.ty c.in-Make.routine c.in-Make.args in
    let n = rw c.as_slice-in-Make.ensures.value at c.weight_of_args-in-Make.ensures in
    rw e (omega arith)
