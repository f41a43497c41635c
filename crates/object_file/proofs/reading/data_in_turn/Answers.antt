use Rattle.std.proofs.Common.{◌≡◌, ◌+◌, ◌-◌, List, sym, subst}
use Rattle.std.proofs.lemmas.Result.{err_from_is_err_and}
use Rattle.object_file.specs.declared.object_unit.object.Datum.{Datum}
use Rattle.object_file.specs.file_parts.Parts.{Reader, each}
use Rattle.object_file.proofs.file_parts.LoopLaws.{with_front, loop-next, loop-stop, loop-end}
use Rattle.object_file.specs.Reading.{datum_at}
use Rattle.object_file.proofs.reading.data_in_turn.Goals as goal

abbrev read : Unit {0} → Reader Datum
read _ = datum_at

abbrev next : Unit {0} → Datum → Unit {0}
next state _ = state

pub returns-in_err-datum : goal.returns-in_err-datum
returns-in_err-datum c =
    let p = err_from_is_err_and c.from_residual.result c.from_residual.ensures.1 in
    rw (p.1, p.2) (loop-stop read next c.in_err-datum.field-0.0 c.loop.list c.args.count c.loop.counter tt c.loop.rest.now (each datum_at c.args.count c.args.bytes.now) c.loop-test.true c.in_err-datum.ensures c.loop.invariant)

pub loop-preserved : goal.loop-preserved
loop-preserved c =
    let after = loop-next read next c.loop.list c.args.count c.loop.counter tt c.loop.rest.now c.in_ok-datum.datum c.in_ok-datum.after.now (each datum_at c.args.count c.args.bytes.now) c.loop-test.true c.in_ok-datum.ensures c.loop.invariant in
    subst (λ (list : List Datum). with_front list (each datum_at (c.args.count - (c.loop.counter + 1)) c.in_ok-datum.after.now) ≡ each datum_at c.args.count c.args.bytes.now) (sym c.in_ok-push.ensures.ok) after

pub returns : goal.returns
returns c = loop-end read next c.loop.list c.args.count c.loop.counter tt c.loop.rest.now (each datum_at c.args.count c.args.bytes.now) c.loop-test.false c.loop.invariant
