use Rattle.std.proofs.Common.{sym, ap, ◌∙◌}
use Rattle.typed_tree.specs.declared.expressions.Expr.{Expr}
use Rattle.typed_tree.specs.Expressions.{view_expr, view_place, view_receiver, view_args}
use Rattle.lowerable.specs.Farness.{is_callable, is_linkable, is_linkable_place, is_linkable_receiver, are_linkable}
use Rattle.lowerable.proofs.Trees.{linkable_set, linkable_call, linkable_virtual, linkable_through, linkable_std, linkable_make, behind_one, behind_two}
use Rattle.lowerable.proofs.expressions.+expressions.Goals.{is_linkable-then-is_callable, is_linkable-else-is_callable}
use Rattle.lowerable.proofs.expressions.+expressions.Goals as goal

pub is_linkable-returns-in-SetOf : goal.is_linkable-returns-in-SetOf
is_linkable-returns-in-SetOf t c =
    let units = c.args.units.now in
    let unit = c.args.unit.now in
    let e = ap (λ (x : Expr). is_linkable units unit (view_expr x)) c.in-SetOf.is ∙ linkable_set units unit c.in-SetOf.ty c.in-SetOf.elements in
    let n = rw c.as_slice.ensures.value at c.are_linkable_elements.ensures in
    n ∙ sym e

pub is_linkable-returns-then-is_linkable_receiver : goal.is_linkable-returns-then-is_linkable_receiver
is_linkable-returns-then-is_linkable_receiver t c =
    let units = c.args.units.now in
    let unit = c.args.unit.now in
    let routine = is_callable units unit c.in-Call.routine in
    let own = is_linkable_receiver units unit (view_receiver c.in-Call.own) in
    let args = are_linkable units unit (view_args c.in-Call.args.items) in
    let e = ap (λ (x : Expr). is_linkable units unit (view_expr x)) c.in-Call.is ∙ linkable_call units unit c.in-Call.ty c.in-Call.routine c.in-Call.own c.in-Call.args in
    let n = rw c.as_slice-then-is_linkable_receiver.ensures.value at c.are_linkable.ensures in
    elim c.if-is_callable.branch [
      | is_linkable-then-is_callable w ↦ n ∙ behind_two routine own args (sym c.is_callable.ensures ∙ w.if-is_callable.true) (sym w.is_linkable_receiver.ensures ∙ sym w.value-is ∙ c.if-is_linkable_receiver.true) ∙ sym e
      | is_linkable-else-is_callable w ↦ absurd cc
    ]

pub is_linkable-returns-then-is_linkable_place : goal.is_linkable-returns-then-is_linkable_place
is_linkable-returns-then-is_linkable_place t c =
    let units = c.args.units.now in
    let unit = c.args.unit.now in
    let own = is_linkable_place units unit (view_place c.in-CallVirtual.own.value) in
    let args = are_linkable units unit (view_args c.in-CallVirtual.args.items) in
    let e = ap (λ (x : Expr). is_linkable units unit (view_expr x)) c.in-CallVirtual.is ∙ linkable_virtual units unit c.in-CallVirtual.ty c.in-CallVirtual.own c.in-CallVirtual.slot c.in-CallVirtual.checked c.in-CallVirtual.args in
    let p = rw c.deref-in-CallVirtual.ensures at c.is_linkable_place-in-CallVirtual.ensures in
    let n = rw c.as_slice-then-is_linkable_place.ensures.value at c.are_linkable-then-is_linkable_place.ensures in
    n ∙ behind_one own args (sym p ∙ c.if-is_linkable_place.true) ∙ sym e

pub is_linkable-returns-then-is_linkable_place-2 : goal.is_linkable-returns-then-is_linkable_place-2
is_linkable-returns-then-is_linkable_place-2 t c =
    let units = c.args.units.now in
    let unit = c.args.unit.now in
    let through = is_linkable_place units unit (view_place c.in-CallThrough.place.value) in
    let args = are_linkable units unit (view_args c.in-CallThrough.args.items) in
    let e = ap (λ (x : Expr). is_linkable units unit (view_expr x)) c.in-CallThrough.is ∙ linkable_through units unit c.in-CallThrough.ty c.in-CallThrough.place c.in-CallThrough.args in
    let p = rw c.deref-in-CallThrough.ensures at c.is_linkable_place-in-CallThrough.ensures in
    let n = rw c.as_slice-then-is_linkable_place-2.ensures.value at c.are_linkable-then-is_linkable_place-2.ensures in
    n ∙ behind_one through args (sym p ∙ c.if-is_linkable_place-2.true) ∙ sym e

pub is_linkable-returns-in-Std : goal.is_linkable-returns-in-Std
is_linkable-returns-in-Std t c =
    let units = c.args.units.now in
    let unit = c.args.unit.now in
    let e = ap (λ (x : Expr). is_linkable units unit (view_expr x)) c.in-Std.is ∙ linkable_std units unit c.in-Std.ty c.in-Std.number c.in-Std.args in
    let n = rw c.as_slice-in-Std.ensures.value at c.are_linkable-in-Std.ensures in
    n ∙ sym e

pub is_linkable-returns-then-is_callable-2 : goal.is_linkable-returns-then-is_callable-2
is_linkable-returns-then-is_callable-2 t c =
    let units = c.args.units.now in
    let unit = c.args.unit.now in
    let routine = is_callable units unit c.in-Make.routine in
    let args = are_linkable units unit (view_args c.in-Make.args.items) in
    let e = ap (λ (x : Expr). is_linkable units unit (view_expr x)) c.in-Make.is ∙ linkable_make units unit c.in-Make.ty c.in-Make.routine c.in-Make.args in
    let n = rw c.as_slice-then-is_callable-2.ensures.value at c.are_linkable-then-is_callable-2.ensures in
    n ∙ behind_one routine args (sym c.is_callable-in-Make.ensures ∙ c.if-is_callable-2.true) ∙ sym e
