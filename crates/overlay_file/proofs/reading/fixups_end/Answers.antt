use Rattle.std.proofs.Common.{arith}
use Rattle.std.proofs.lemmas.Result.{err_from_is_err_and}
use Rattle.overlay_file.specs.Reading.{fixups_from}
use Rattle.overlay_file.proofs.LoopLaws.{fixups-next, fixups-stop, fixups-end}
use Rattle.overlay_file.proofs.reading.fixups_end.Goals as goal

pub returns-in_err-fixup : goal.returns-in_err-fixup
returns-in_err-fixup c =
    let p = err_from_is_err_and c.from_residual.result c.from_residual.ensures.1 in
    rw (p.1, p.2) (fixups-stop c.in_err-fixup.field-0.0 c.args.size c.loop.least c.args.count c.loop.counter c.args.bytes.now c.loop.place (fixups_from c.args.size 0 c.args.count c.args.bytes.now c.args.at) c.loop-test.true c.in_err-fixup.ensures c.loop.invariant.0)

pub loop-preserved : goal.loop-preserved
loop-preserved c =
    let next = fixups-next c.args.size c.loop.least c.args.count c.loop.counter c.in_ok-fixup.fixup c.args.bytes.now c.loop.place (fixups_from c.args.size 0 c.args.count c.args.bytes.now c.args.at) c.loop-test.true c.in_ok-fixup.ensures c.loop.invariant.0 in
    (rw c.from-least.ensures next, omega arith)

pub returns : goal.returns
returns c = fixups-end c.args.size c.loop.least c.args.count c.loop.counter c.args.bytes.now c.loop.place (fixups_from c.args.size 0 c.args.count c.args.bytes.now c.args.at) c.loop-test.false c.loop.invariant.0
