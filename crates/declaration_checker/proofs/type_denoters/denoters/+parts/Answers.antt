use Rattle.std.proofs.Common.{◌≡◌, refl}
use Rattle.std.proofs.lemmas.Result.{err_from_is_err_and}
use Rattle.declaration_checker.specs.type_denoters.Denoters.{ground}
use Rattle.declaration_checker.proofs.type_denoters.Structured.{array_no_index, array_no_element, array_made, record_no_field, record_made}
use Rattle.declaration_checker.proofs.type_denoters.denoters.+parts.Goals as goal

pub judged_structured-returns-in_err-indexes-in-Array : goal.judged_structured-returns-in_err-indexes-in-Array
judged_structured-returns-in_err-indexes-in-Array t c =
    let p = err_from_is_err_and c.from_residual.result c.from_residual.ensures.1 in
    let on = ground c.args.unit.now c.args.names.now in
    let fails = rw c.as_slice.ensures.value at c.in_err-indexes-in-Array.ensures in
    rw (p.1, p.2) (array_no_index on c.args.scope.now c.args.place c.args.tree.now c.in-Array.position c.in-Array.indexes c.in-Array.element _ c.in-Array.is refl _ fails)

pub judged_structured-returns-in_err-element-in-Array : goal.judged_structured-returns-in_err-element-in-Array
judged_structured-returns-in_err-element-in-Array t c =
    let p = err_from_is_err_and c.from_residual-in_err-element-in-Array.result c.from_residual-in_err-element-in-Array.ensures.1 in
    let on = ground c.args.unit.now c.args.names.now in
    let same : c.deref.result.now ≡ c.in-Array.element.value = let e = c.deref.ensures in cc in
    let made = rw c.as_slice.ensures.value at c.in_ok-indexes-in-Array.ensures in
    rw (p.1, p.2) (array_no_element on c.args.scope.now c.args.place c.args.tree.now c.in-Array.position c.in-Array.indexes c.in-Array.element c.deref.result.now c.in-Array.is same _ _ made c.in_err-element-in-Array.ensures)

pub judged_structured-returns-in_ok-element-in-Array : goal.judged_structured-returns-in_ok-element-in-Array
judged_structured-returns-in_ok-element-in-Array t c =
    let on = ground c.args.unit.now c.args.names.now in
    let same : c.deref.result.now ≡ c.in-Array.element.value = let e = c.deref.ensures in cc in
    let made = rw c.as_slice.ensures.value at c.in_ok-indexes-in-Array.ensures in
    array_made on c.args.scope.now c.args.place c.args.tree.now c.in-Array.position c.in-Array.indexes c.in-Array.element c.deref.result.now c.in-Array.is same _ _ _ _ made c.in_ok-element-in-Array.ensures c.arrays_of.ensures

pub judged_structured-returns-in_err-fields-in-Record : goal.judged_structured-returns-in_err-fields-in-Record
judged_structured-returns-in_err-fields-in-Record t c =
    let p = err_from_is_err_and c.from_residual-in_err-fields-in-Record.result c.from_residual-in_err-fields-in-Record.ensures.1 in
    let on = ground c.args.unit.now c.args.names.now in
    let fails = rw c.as_slice-in-Record.ensures.value at c.in_err-fields-in-Record.ensures in
    rw (p.1, p.2) (record_no_field on c.args.scope.now c.args.place c.args.tree.now c.in-Record.position c.in-Record.fields c.in-Record.semicolon c.in-Record.is _ fails)

pub judged_structured-returns-in_ok-fields-in-Record : goal.judged_structured-returns-in_ok-fields-in-Record
judged_structured-returns-in_ok-fields-in-Record t c =
    let on = ground c.args.unit.now c.args.names.now in
    let made = rw c.as_slice-in-Record.ensures.value at c.in_ok-fields-in-Record.ensures in
    record_made on c.args.scope.now c.args.place c.args.tree.now c.in-Record.position c.in-Record.fields c.in-Record.semicolon c.in-Record.is _ _ _ made c.added.ensures
