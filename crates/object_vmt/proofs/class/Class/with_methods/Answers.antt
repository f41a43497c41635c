use Rattle.std.proofs.lemmas.Result.{err_from_is_err_and}
use Rattle.object_vmt.proofs.Steps.{methods_step, methods_stop}
use Rattle.object_vmt.proofs.class.Class.with_methods.Goals as goal

pub loop-method-preserved : goal.loop-method-preserved
loop-method-preserved c =
    let step = methods_step c.args.self c.loop-method.class c.in_ok-class.class c.args.methods.now c.loop-method.method-index c.method-item.result
    c.loop-method-test.true c.method-item.is c.loop-method.invariant.members c.loop-method.invariant.fault c.in_ok-class.ensures.lawful c.in_ok-class.ensures.ok in
    record { members = step.0; fault = step.1 }

pub returns-in_err-class-clause-err : goal.returns-in_err-class-clause-err
returns-in_err-class-clause-err c =
    let p = err_from_is_err_and c.from_residual.result c.from_residual.ensures.1 in
    rw (p.1, p.2) (methods_stop c.args.self c.loop-method.class c.args.methods.now c.loop-method.method-index c.method-item.result c.in_err-class.field-0.0
    c.loop-method-test.true c.method-item.is c.loop-method.invariant.fault c.in_err-class.ensures.err)
