use Rattle.std.proofs.Common.{◌≡◌, ◌+◌, ◌-◌, List, sym, subst}
use Rattle.std.proofs.lemmas.Result.{err_from_is_err_and}
use Rattle.type_layout.specs.declared.definitions.Method.{Method}
use Rattle.object_file.specs.file_parts.Parts.{each}
use Rattle.object_file.proofs.file_parts.LoopLaws.{with_front, loop-next, loop-stop, loop-end}
use Rattle.unit_file.specs.type_file.Reading.{method_at}
use Rattle.unit_file.proofs.type_file.parts.methods_in_turn.Goals as goal

pub returns-in_err-method : goal.returns-in_err-method
returns-in_err-method c =
    let p = err_from_is_err_and c.from_residual.result c.from_residual.ensures.1 in
    rw (p.1, p.2) (loop-stop (λ (_ : Unit {0}). (method_at c.args.count c.args.place)) (λ state _. state) c.in_err-method.field-0.0 c.loop.methods c.args.left c.loop.counter tt c.loop.rest.now (each (method_at c.args.count c.args.place) c.args.left c.args.bytes.now) c.loop-test.true c.in_err-method.ensures c.loop.invariant)

pub loop-preserved : goal.loop-preserved
loop-preserved c =
    let after = loop-next (λ (_ : Unit {0}). (method_at c.args.count c.args.place)) (λ state _. state) c.loop.methods c.args.left c.loop.counter tt c.loop.rest.now c.in_ok-method.method c.in_ok-method.after.now (each (method_at c.args.count c.args.place) c.args.left c.args.bytes.now) c.loop-test.true c.in_ok-method.ensures c.loop.invariant in
    subst (λ (list : List Method). with_front list (each (method_at c.args.count c.args.place) (c.args.left - (c.loop.counter + 1)) c.in_ok-method.after.now) ≡ each (method_at c.args.count c.args.place) c.args.left c.args.bytes.now) (sym c.in_ok-push.ensures.ok) after

pub returns : goal.returns
returns c = loop-end (λ (_ : Unit {0}). (method_at c.args.count c.args.place)) (λ state _. state) c.loop.methods c.args.left c.loop.counter tt c.loop.rest.now (each (method_at c.args.count c.args.place) c.args.left c.args.bytes.now) c.loop-test.false c.loop.invariant
