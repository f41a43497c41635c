use Rattle.std.proofs.lemmas.Result.{err_from_is_err_and}
use Rattle.object_vmt.proofs.Steps.{fields_step, fields_stop}
use Rattle.object_vmt.proofs.class.Class.with_fields.Goals as goal

pub loop-field-preserved : goal.loop-field-preserved
loop-field-preserved c =
    let step = fields_step c.args.self c.loop-field.class c.in_ok-class.class c.args.fields.now c.loop-field.field-index c.field-item.result
    c.loop-field-test.true c.field-item.is c.loop-field.invariant.members c.loop-field.invariant.fault c.in_ok-class.ensures.lawful c.in_ok-class.ensures.ok in
    record { members = step.0; fault = step.1 }

pub returns-in_err-class-clause-err : goal.returns-in_err-class-clause-err
returns-in_err-class-clause-err c =
    let p = err_from_is_err_and c.from_residual.result c.from_residual.ensures.1 in
    rw (p.1, p.2) (fields_stop c.args.self c.loop-field.class c.args.fields.now c.loop-field.field-index c.field-item.result c.in_err-class.field-0.0
    c.loop-field-test.true c.field-item.is c.loop-field.invariant.fault c.in_err-class.ensures.err)
