use Rattle.std.proofs.Common.{arith, ◌≡◌, ◌+◌, ◌<◌, max, ap, sym, ◌∙◌, drop, drop-cons, add-one, length, List, ◌∷◌}
use Rattle.typed_tree.specs.declared.expressions.Arg.{Arg}
use Rattle.typed_tree.specs.Expressions.{view_expr, view_place, view_receiver, view_args, view_elements, Call, CallVirtual, CallThrough, Std, Make, SetOf}
use Rattle.typed_tree.specs.Slots.{capped}
use Rattle.typed_tree.specs.Needs.{arguments_need, argument_slot}
use Rattle.typed_tree.proofs.NeedSteps.{arguments_need-step}
use Rattle.typed_tree.proofs.Views.{view_set, view_call, view_call_virtual, view_call_through, view_std, view_make}
use Rattle.typed_tree.proofs.needs.+needs.Goals as goal

pub need_of_args-loop-arg-preserved : goal.need_of_args-loop-arg-preserved
need_of_args-loop-arg-preserved t c =
    let types = c.args.types.now.types in
    let args = c.args.args.now in
    let i = c.loop-arg.arg-index in
    let one = c.arg-item.result in
    let rest : List Arg = drop (i + 1) args in
    let within : i < length args = c.loop-arg-test.true in
    let front : drop i args ≡ one ∷ rest =
    drop-cons args i one within ∙ rw (← add-one i) (ap (λ (x : Arg). x ∷ rest) (sym c.arg-item.is)) in
    let step = arguments_need-step types c.loop-arg.slots c.args.result_slot one rest in
    let before : capped (arguments_need types c.args.before c.args.result_slot (view_args args))
    ≡ max c.loop-arg.most (capped (arguments_need types c.loop-arg.slots c.args.result_slot (view_args (one ∷ rest)))) =
    rw front at c.loop-arg.invariant in
    let slots : c.saturating_add-slots.result ≡ capped (c.loop-arg.slots + argument_slot types one) =
    rw c.slot_of_arg.ensures.value at c.saturating_add-slots.ensures in
    rw slots (omega arith)

pub need_of_expr-returns-in-SetOf : goal.need_of_expr-returns-in-SetOf
need_of_expr-returns-in-SetOf t c =
    let e : view_expr c.args.expr.now ≡ SetOf c.in-SetOf.ty (view_elements c.in-SetOf.elements.items) =
    ap view_expr c.in-SetOf.is ∙ view_set c.in-SetOf.ty c.in-SetOf.elements in
    let n = rw c.as_slice.ensures.value at c.need_of_elements.ensures in
    rw e (omega arith)

pub need_of_expr-returns-in-Call : goal.need_of_expr-returns-in-Call
need_of_expr-returns-in-Call t c =
    let e : view_expr c.args.expr.now ≡ Call c.in-Call.ty c.in-Call.routine (view_receiver c.in-Call.own) (view_args c.in-Call.args.items) =
    ap view_expr c.in-Call.is ∙ view_call c.in-Call.ty c.in-Call.routine c.in-Call.own c.in-Call.args in
    let n = rw (c.as_slice-in-Call.ensures.value, c.slot_of_result.ensures.value, c.slot_of_receiver.ensures) at c.need_of_args-above.ensures in
    rw e (omega arith)

pub need_of_expr-returns-in-CallVirtual : goal.need_of_expr-returns-in-CallVirtual
need_of_expr-returns-in-CallVirtual t c =
    let e : view_expr c.args.expr.now ≡ CallVirtual c.in-CallVirtual.ty (view_place c.in-CallVirtual.own.value) c.in-CallVirtual.slot c.in-CallVirtual.checked (view_args c.in-CallVirtual.args.items) =
    ap view_expr c.in-CallVirtual.is ∙ view_call_virtual c.in-CallVirtual.ty c.in-CallVirtual.own c.in-CallVirtual.slot c.in-CallVirtual.checked c.in-CallVirtual.args in
    let p = rw c.deref-in-CallVirtual.ensures at c.need_of_place-in-CallVirtual.ensures in
    let n = rw (c.as_slice-in-CallVirtual.ensures.value, c.slot_of_result-in-CallVirtual.ensures.value) at c.need_of_args.ensures in
    rw e (omega arith)

pub need_of_expr-returns-in-CallThrough : goal.need_of_expr-returns-in-CallThrough
need_of_expr-returns-in-CallThrough t c =
    let e : view_expr c.args.expr.now ≡ CallThrough c.in-CallThrough.ty (view_place c.in-CallThrough.place.value) (view_args c.in-CallThrough.args.items) =
    ap view_expr c.in-CallThrough.is ∙ view_call_through c.in-CallThrough.ty c.in-CallThrough.place c.in-CallThrough.args in
    let p = rw c.deref-in-CallThrough.ensures at c.need_of_place-in-CallThrough.ensures in
    let n = rw (c.as_slice-in-CallThrough.ensures.value, c.slot_of_result-in-CallThrough.ensures.value) at c.need_of_args-in-CallThrough.ensures in
    rw e (omega arith)

pub need_of_expr-returns-in-Std : goal.need_of_expr-returns-in-Std
need_of_expr-returns-in-Std t c =
    let e : view_expr c.args.expr.now ≡ Std c.in-Std.ty c.in-Std.number (view_args c.in-Std.args.items) =
    ap view_expr c.in-Std.is ∙ view_std c.in-Std.ty c.in-Std.number c.in-Std.args in
    let n = rw (c.as_slice-in-Std.ensures.value, c.slot_of_result-in-Std.ensures.value) at c.need_of_args-in-Std.ensures in
    rw e n

pub need_of_expr-returns-in-Make : goal.need_of_expr-returns-in-Make
need_of_expr-returns-in-Make t c =
    let e : view_expr c.args.expr.now ≡ Make c.in-Make.ty c.in-Make.routine (view_args c.in-Make.args.items) =
    ap view_expr c.in-Make.is ∙ view_make c.in-Make.ty c.in-Make.routine c.in-Make.args in
    rw (e, ← c.as_slice-in-Make.ensures.value) c.need_of_args-in-Make.ensures
