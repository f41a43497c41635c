use Rattle.std.proofs.Common.{◌≡◌, ◌≤◌, ◌+◌, ◌%◌, false, refl, arith}
use Rattle.dos_runner.specs.Transfer.{ReadLess}
use Rattle.dos_runner.proofs.Failed.{on_err}
use Rattle.dos_runner.proofs.Reading.{read_more, all_read, read_less}
use Rattle.dos_runner.proofs.transfer.read_bytes.Goals as goal

pub loop-done-preserved : goal.loop-done-preserved
loop-done-preserved g c =
    let within : c.loop-done.done + c.min-size.result ≤ c.args.count = omega (arith, c.min-size.ensures, c.loop-done-test.true) in
    record {
      read = read_more c.args.segment c.args.offset c.args.count c.min-size.result ((c.args.offset + c.loop-done.done) % 65536)
          c.args.machine.now c.loop-done.machine c.read_part.new.machine
          (g.S.Source.remaining c.args.source.now) (g.S.Source.remaining c.loop-done.source) (g.S.Source.remaining c.read_part.new.source)
          c.loop-done.done c.in_ok-part.part c.ranges.offset.fits within refl c.loop-done.invariant.read c.in_ok-part.ensures.read;
      over = c.loop-done.invariant.over;
      counted = omega (arith, c.loop-done.invariant.counted, c.read_part.ensures.counted);
    }

pub returns-in_err-part-clause-less : goal.returns-in_err-part-clause-less
returns-in_err-part-clause-less g c =
    on_err c.from_residual.result (ReadLess c.args.count (g.S.Source.remaining c.args.source.now) (g.S.Source.remaining c.read_part.new.source))
    (read_less c.args.segment c.args.offset c.args.count c.args.machine.now c.loop-done.machine
    (g.S.Source.remaining c.args.source.now) (g.S.Source.remaining c.loop-done.source) (g.S.Source.remaining c.read_part.new.source)
    c.loop-done.done c.loop-done-test.true c.loop-done.invariant.read c.in_err-part.ensures.not_given)

pub returns-in_err-part-clause-not_over : goal.returns-in_err-part-clause-not_over
returns-in_err-part-clause-not_over g c = on_err c.from_residual.result (c.args.over.now ≡ false) c.if-over.false

pub returns-clause-read : goal.returns-clause-read
returns-clause-read g c =
    all_read c.args.segment c.args.offset c.args.count c.args.machine.now c.loop-done.machine c.args.over.now c.loop-done.over
    (g.S.Source.remaining c.args.source.now) (g.S.Source.remaining c.loop-done.source) c.loop-done.done
    c.if-over.false c.loop-done.invariant.over c.loop-done-test.false c.loop-done.invariant.read
