use Rattle.std.proofs.Common.{arith, ◌≡◌, ◌+◌, ◌-◌, ◌^◌, ◌<◌, min, ap, sym, ◌∙◌, drop, drop-cons, add-one, length, length-append, List, [], ◌∷◌}
use Rattle.std.proofs.lemmas.List.{drop_all}
use Rattle.typed_tree.specs.declared.expressions.Arg.{Arg}
use Rattle.typed_tree.specs.declared.expressions.SetElement.{SetElement}
use Rattle.typed_tree.specs.Expressions.{view_expr, view_place, view_receiver, view_args, view_elements, Call, CallVirtual, CallThrough, Std, Make, SetOf}
use Rattle.typed_tree.proofs.Views.{view_set, view_call, view_call_virtual, view_call_through, view_std, view_make}
use Rattle.lower_places.specs.Data.{literals_of_place, literals_of_receiver, literals_of_elements, literals_of_arguments}
use Rattle.lower_places.proofs.LiteralSteps.{element_step, arg_step}
use Rattle.lower_places.proofs.literals.+literals.Goals as goal

pub literals_of_args-loop-arg-preserved : goal.literals_of_args-loop-arg-preserved
literals_of_args-loop-arg-preserved t c =
    let all = c.args.args.now in
    let i = c.loop-arg.arg-index in
    let one = c.arg-item.result in
    let rest : List Arg = drop (i + 1) all in
    let within : i < length all = c.loop-arg-test.true in
    let front : drop i all ≡ one ∷ rest = drop-cons all i one within ∙ rw (← add-one i) (ap (λ (x : Arg). x ∷ rest) (sym c.arg-item.is)) in
    let step = arg_step one (view_args rest) in
    let before : min (length (literals_of_arguments (view_args all))) (2 ^ 32 - 1) ≡ min (c.loop-arg.sum + length (literals_of_arguments (view_args (one ∷ rest)))) (2 ^ 32 - 1) = rw front at c.loop-arg.invariant.1 in
    (omega arith, omega (arith, step, before))

pub literals_of_args-returns : goal.literals_of_args-returns
literals_of_args-returns t c =
    let all = c.args.args.now in
    let past : drop c.loop-arg.arg-index all ≡ [] = drop_all c.loop-arg.arg-index all (omega arith) in
    let last : min (length (literals_of_arguments (view_args all))) (2 ^ 32 - 1) ≡ min (c.loop-arg.sum + 0) (2 ^ 32 - 1) = rw past at c.loop-arg.invariant.1 in
    let small = c.loop-arg.invariant.0 in
    omega (arith, last, small)

pub literals_of_elements-loop-element-preserved : goal.literals_of_elements-loop-element-preserved
literals_of_elements-loop-element-preserved t c =
    let all = c.args.elements.now in
    let i = c.loop-element.element-index in
    let one = c.element-item.result in
    let rest : List SetElement = drop (i + 1) all in
    let within : i < length all = c.loop-element-test.true in
    let front : drop i all ≡ one ∷ rest = drop-cons all i one within ∙ rw (← add-one i) (ap (λ (x : SetElement). x ∷ rest) (sym c.element-item.is)) in
    let step = element_step one (view_elements rest) in
    let before : min (length (literals_of_elements (view_elements all))) (2 ^ 32 - 1) ≡ min (c.loop-element.sum + length (literals_of_elements (view_elements (one ∷ rest)))) (2 ^ 32 - 1) = rw front at c.loop-element.invariant.1 in
    (omega arith, omega (arith, step, before))

pub literals_of_elements-returns : goal.literals_of_elements-returns
literals_of_elements-returns t c =
    let all = c.args.elements.now in
    let past : drop c.loop-element.element-index all ≡ [] = drop_all c.loop-element.element-index all (omega arith) in
    let last : min (length (literals_of_elements (view_elements all))) (2 ^ 32 - 1) ≡ min (c.loop-element.sum + 0) (2 ^ 32 - 1) = rw past at c.loop-element.invariant.1 in
    let small = c.loop-element.invariant.0 in
    omega (arith, last, small)

pub literals_of_expr-returns-in-SetOf : goal.literals_of_expr-returns-in-SetOf
literals_of_expr-returns-in-SetOf t c =
    let e : view_expr c.args.expr.now ≡ SetOf c.in-SetOf.ty (view_elements c.in-SetOf.elements.items) = ap view_expr c.in-SetOf.is ∙ view_set c.in-SetOf.ty c.in-SetOf.elements in
    rw (e, ← c.as_slice.ensures.value) c.literals_of_elements.ensures

pub literals_of_expr-returns-in-Call : goal.literals_of_expr-returns-in-Call
literals_of_expr-returns-in-Call t c =
    let e : view_expr c.args.expr.now ≡ Call c.in-Call.ty c.in-Call.routine (view_receiver c.in-Call.own) (view_args c.in-Call.args.items) =
    ap view_expr c.in-Call.is ∙ view_call c.in-Call.ty c.in-Call.routine c.in-Call.own c.in-Call.args in
    let n = rw c.as_slice-in-Call.ensures.value at c.literals_of_args.ensures in
    let all = length-append (literals_of_receiver (view_receiver c.in-Call.own)) (literals_of_arguments (view_args c.in-Call.args.items)) in
    rw e (omega (arith, n, all))

pub literals_of_expr-returns-in-CallVirtual : goal.literals_of_expr-returns-in-CallVirtual
literals_of_expr-returns-in-CallVirtual t c =
    let e : view_expr c.args.expr.now ≡ CallVirtual c.in-CallVirtual.ty (view_place c.in-CallVirtual.own.value) c.in-CallVirtual.slot c.in-CallVirtual.checked (view_args c.in-CallVirtual.args.items) =
    ap view_expr c.in-CallVirtual.is ∙ view_call_virtual c.in-CallVirtual.ty c.in-CallVirtual.own c.in-CallVirtual.slot c.in-CallVirtual.checked c.in-CallVirtual.args in
    let p = rw c.deref-in-CallVirtual.ensures at c.literals_of_place-in-CallVirtual.ensures in
    let n = rw c.as_slice-in-CallVirtual.ensures.value at c.literals_of_args-in-CallVirtual.ensures in
    let all = length-append (literals_of_place (view_place c.in-CallVirtual.own.value)) (literals_of_arguments (view_args c.in-CallVirtual.args.items)) in
    rw e (omega (arith, p, n, all))

pub literals_of_expr-returns-in-CallThrough : goal.literals_of_expr-returns-in-CallThrough
literals_of_expr-returns-in-CallThrough t c =
    let e : view_expr c.args.expr.now ≡ CallThrough c.in-CallThrough.ty (view_place c.in-CallThrough.place.value) (view_args c.in-CallThrough.args.items) =
    ap view_expr c.in-CallThrough.is ∙ view_call_through c.in-CallThrough.ty c.in-CallThrough.place c.in-CallThrough.args in
    let p = rw c.deref-in-CallThrough.ensures at c.literals_of_place-in-CallThrough.ensures in
    let n = rw c.as_slice-in-CallThrough.ensures.value at c.literals_of_args-in-CallThrough.ensures in
    let all = length-append (literals_of_place (view_place c.in-CallThrough.place.value)) (literals_of_arguments (view_args c.in-CallThrough.args.items)) in
    rw e (omega (arith, p, n, all))

pub literals_of_expr-returns-in-Std : goal.literals_of_expr-returns-in-Std
literals_of_expr-returns-in-Std t c =
    let e : view_expr c.args.expr.now ≡ Std c.in-Std.ty c.in-Std.number (view_args c.in-Std.args.items) =
    ap view_expr c.in-Std.is ∙ view_std c.in-Std.ty c.in-Std.number c.in-Std.args in
    rw (e, ← c.as_slice-in-Std.ensures.value) c.literals_of_args-in-Std.ensures

pub literals_of_expr-returns-in-Make : goal.literals_of_expr-returns-in-Make
literals_of_expr-returns-in-Make t c =
    let e : view_expr c.args.expr.now ≡ Make c.in-Make.ty c.in-Make.routine (view_args c.in-Make.args.items) =
    ap view_expr c.in-Make.is ∙ view_make c.in-Make.ty c.in-Make.routine c.in-Make.args in
    rw (e, ← c.as_slice-in-Make.ensures.value) c.literals_of_args-in-Make.ensures
