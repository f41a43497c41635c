use Rattle.std.proofs.Common.{◌≡◌, ◌++◌, map, sym, ap, ◌∙◌}
use Rattle.typed_tree.specs.Expressions.{view_expr, view_place, view_receiver, view_args, view_elements}
use Rattle.typed_tree.proofs.Views.{view_set, view_call, view_call_virtual, view_call_through, view_std, view_make}
use Rattle.flat_code.specs.Plain.{view_datum}
use Rattle.lower_places.specs.Data.{literals_of, literals_of_place, literals_of_receiver, literals_of_elements, literals_of_arguments}
use Rattle.lower_stmt.proofs.DatumRows.{both_parts}
use Rattle.lower_stmt.proofs.literals.+literals.Goals as goal

pub add_expr-returns-in-SetOf : goal.add_expr-returns-in-SetOf
add_expr-returns-in-SetOf t c =
    let e : literals_of (view_expr c.args.expr.now) ≡ literals_of_elements (view_elements c.as_slice.result.now) =
    ap literals_of (ap view_expr c.in-SetOf.is ∙ view_set c.in-SetOf.ty c.in-SetOf.elements) ∙ ap (λ z. literals_of_elements (view_elements z)) (sym c.as_slice.ensures.value) in
    rw e c.add_elements.ensures

pub add_expr-returns-in_ok-add_receiver-in-Call : goal.add_expr-returns-in_ok-add_receiver-in-Call
add_expr-returns-in_ok-add_receiver-in-Call t c =
    let own = literals_of_receiver (view_receiver c.in-Call.own) in
    let given = literals_of_arguments (view_args c.as_slice-in-Call.result.now) in
    let all : literals_of (view_expr c.args.expr.now) ≡ own ++ given =
    ap literals_of (ap view_expr c.in-Call.is ∙ view_call c.in-Call.ty c.in-Call.routine c.in-Call.own c.in-Call.args)
    ∙ ap (λ z. own ++ literals_of_arguments (view_args z)) (sym c.as_slice-in-Call.ensures.value) in
    let joined = both_parts (map view_datum c.args.made.now) (map view_datum c.add_receiver.new.made) own given (literals_of (view_expr c.args.expr.now)) c.in_ok-add_receiver-in-Call.ensures all in
    rw (← joined) c.add_args.ensures

pub add_expr-returns-in_ok-add_place-in-CallVirtual : goal.add_expr-returns-in_ok-add_place-in-CallVirtual
add_expr-returns-in_ok-add_place-in-CallVirtual t c =
    let own = literals_of_place (view_place c.deref-in-CallVirtual.result.now) in
    let given = literals_of_arguments (view_args c.as_slice-in-CallVirtual.result.now) in
    let all : literals_of (view_expr c.args.expr.now) ≡ own ++ given =
    ap literals_of (ap view_expr c.in-CallVirtual.is ∙ view_call_virtual c.in-CallVirtual.ty c.in-CallVirtual.own c.in-CallVirtual.slot c.in-CallVirtual.checked c.in-CallVirtual.args)
    ∙ ap (λ z. literals_of_place (view_place z) ++ literals_of_arguments (view_args c.in-CallVirtual.args.items)) (sym c.deref-in-CallVirtual.ensures)
    ∙ ap (λ z. own ++ literals_of_arguments (view_args z)) (sym c.as_slice-in-CallVirtual.ensures.value) in
    let joined = both_parts (map view_datum c.args.made.now) (map view_datum c.add_place-in-CallVirtual.new.made) own given (literals_of (view_expr c.args.expr.now)) c.in_ok-add_place-in-CallVirtual.ensures all in
    rw (← joined) c.add_args-in-CallVirtual.ensures

pub add_expr-returns-in_ok-add_place-in-CallThrough : goal.add_expr-returns-in_ok-add_place-in-CallThrough
add_expr-returns-in_ok-add_place-in-CallThrough t c =
    let own = literals_of_place (view_place c.deref-in-CallThrough.result.now) in
    let given = literals_of_arguments (view_args c.as_slice-in-CallThrough.result.now) in
    let all : literals_of (view_expr c.args.expr.now) ≡ own ++ given =
    ap literals_of (ap view_expr c.in-CallThrough.is ∙ view_call_through c.in-CallThrough.ty c.in-CallThrough.place c.in-CallThrough.args)
    ∙ ap (λ z. literals_of_place (view_place z) ++ literals_of_arguments (view_args c.in-CallThrough.args.items)) (sym c.deref-in-CallThrough.ensures)
    ∙ ap (λ z. own ++ literals_of_arguments (view_args z)) (sym c.as_slice-in-CallThrough.ensures.value) in
    let joined = both_parts (map view_datum c.args.made.now) (map view_datum c.add_place-in-CallThrough.new.made) own given (literals_of (view_expr c.args.expr.now)) c.in_ok-add_place-in-CallThrough.ensures all in
    rw (← joined) c.add_args-in-CallThrough.ensures

pub add_expr-returns-in-Std : goal.add_expr-returns-in-Std
add_expr-returns-in-Std t c =
    let e : literals_of (view_expr c.args.expr.now) ≡ literals_of_arguments (view_args c.as_slice-in-Std.result.now) =
    ap literals_of (ap view_expr c.in-Std.is ∙ view_std c.in-Std.ty c.in-Std.number c.in-Std.args) ∙ ap (λ z. literals_of_arguments (view_args z)) (sym c.as_slice-in-Std.ensures.value) in
    rw e c.add_args-in-Std.ensures

pub add_expr-returns-in-Make : goal.add_expr-returns-in-Make
add_expr-returns-in-Make t c =
    let e : literals_of (view_expr c.args.expr.now) ≡ literals_of_arguments (view_args c.as_slice-in-Make.result.now) =
    ap literals_of (ap view_expr c.in-Make.is ∙ view_make c.in-Make.ty c.in-Make.routine c.in-Make.args) ∙ ap (λ z. literals_of_arguments (view_args z)) (sym c.as_slice-in-Make.ensures.value) in
    rw e c.add_args-in-Make.ensures
