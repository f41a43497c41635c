use Rattle.std.proofs.Common.{arith}
use Rattle.std.proofs.lemmas.Result.{err_from_is_err_and}
use Rattle.overlay_file.specs.Reading.{name_from}
use Rattle.overlay_file.proofs.LoopLaws.{name-next, name-stops, name-ends}
use Rattle.overlay_file.proofs.reading.name_end.Goals as goal

pub returns-in_err-name_byte : goal.returns-in_err-name_byte
returns-in_err-name_byte c =
    let p = err_from_is_err_and c.from_residual.result c.from_residual.ensures.1 in
    rw (p.1, p.2) (name-stops c.in_err-name_byte.field-0.0 c.loop-k.k c.args.size c.args.bytes.now c.args.at (name_from 0 c.args.size c.args.bytes.now c.args.at) c.loop-k-test.true c.in_err-name_byte.ensures c.loop-k.invariant)

pub loop-k-preserved : goal.loop-k-preserved
loop-k-preserved c =
    name-next c.loop-k.k c.args.size c.args.bytes.now c.args.at c.in_ok-name_byte.field-0 (name_from 0 c.args.size c.args.bytes.now c.args.at) c.loop-k-test.true c.in_ok-name_byte.ensures c.loop-k.invariant

pub returns : goal.returns
returns c = name-ends c.loop-k.k c.args.size c.args.bytes.now c.args.at (name_from 0 c.args.size c.args.bytes.now c.args.at) (omega arith) c.loop-k.invariant
