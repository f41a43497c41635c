use Rattle.std.proofs.Common.{◌≡◌, None, [], length, take, ap, ◌∙◌, arith, zero-add}
use Rattle.std.proofs.lemmas.Result.{err_from_is_err_and}
use Rattle.std.proofs.lemmas.List.{length-take}
use Rattle.type_layout.proofs.Given.{length-given_by}
use Rattle.object_vmt.specs.Members.{members_by, members_rule}
use Rattle.object_vmt.specs.Faults.{type_fault, IsAnswerTo}
use Rattle.object_vmt.proofs.Steps.{types_step, types_stop}
use Rattle.object_vmt.proofs.building.built.Goals as goal

pub loop-number-preserved : goal.loop-number-preserved
loop-number-preserved c =
    let none : type_fault c.loop-number.classes.items c.get.result.now ≡ None = rw c.as_slice.ensures.value at c.in_ok-class.ensures.lawful in
    let is : c.in_ok-class.class ≡ members_by c.loop-number.classes.items c.get.result.now = rw c.as_slice.ensures.value at c.in_ok-class.ensures.ok in
    let step = types_step c.args.types.now.types c.loop-number.number c.get.result.now c.loop-number.classes.items c.push.new.classes.items c.in_ok-class.class
    c.get.ensures c.loop-number.invariant.members c.loop-number.invariant.fault none is c.in_ok-push.ensures in
    record { members = step.0; fault = step.1 }

pub returns-in_err-class-clause-err : goal.returns-in_err-class-clause-err
returns-in_err-class-clause-err c =
    let p = err_from_is_err_and c.from_residual.result c.from_residual.ensures.1 in
    let answer : IsAnswerTo (type_fault c.loop-number.classes.items c.get.result.now) c.in_err-class.field-0.0 =
    rw c.as_slice.ensures.value at c.in_err-class.ensures.err in
    rw (p.1, p.2) (types_stop c.args.types.now.types c.loop-number.number c.get.result.now c.loop-number.classes.items c.in_err-class.field-0.0
    c.get.ensures c.loop-number.invariant.fault answer)

pub returns-clause-each : goal.returns-clause-each
returns-clause-each c =
    let number = c.loop-number.number in
    let count : length c.loop-number.classes.items ≡ length (take number c.args.types.now.types) =
    ap length c.loop-number.invariant.members ∙ length-given_by members_rule [] [] (take number c.args.types.now.types) ∙ zero-add (length (take number c.args.types.now.types)) in
    ap length c.from_vec.ensures ∙ count ∙ omega (arith, length-take number c.args.types.now.types)
