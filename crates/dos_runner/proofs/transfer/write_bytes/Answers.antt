use Rattle.std.proofs.Common.{◌<◌, ◌≤◌, ◌+◌, ◌%◌, refl, arith}
use Rattle.cpu_8086.specs.Process.{bytes_at}
use Rattle.dos_runner.proofs.BytesAt.{more_written, prefix_of_row}
use Rattle.dos_runner.proofs.Failed.{on_err}
use Rattle.dos_runner.proofs.transfer.write_bytes.Goals as goal

pub returns-in_err-write_part-clause-prefix : goal.returns-in_err-write_part-clause-prefix
returns-in_err-write_part-clause-prefix g c =
    let m = c.args.machine.now.memory in
    let within : c.loop-done.done + c.min-size.result ≤ c.args.count = omega (arith, c.min-size.ensures, c.loop-done.invariant.within) in
    prefix_of_row m c.args.segment c.args.offset c.loop-done.done c.min-size.result c.args.count
    (bytes_at m c.args.segment ((c.args.offset + c.loop-done.done) % 65536) c.min-size.result)
    (g.K.Sink.contents c.args.sink.now) (g.K.Sink.contents c.loop-done.sink) (g.K.Sink.contents c.write_part.new.sink)
    c.ranges.offset.fits within c.loop-done.invariant.contents refl c.write_part.ensures.prefix

pub returns-in_err-write_part-clause-some : goal.returns-in_err-write_part-clause-some
returns-in_err-write_part-clause-some g c = on_err c.from_residual.result (0 < c.args.count) (omega (arith, c.loop-done-test.true))

pub loop-done-preserved : goal.loop-done-preserved
loop-done-preserved g c =
    let m = c.args.machine.now.memory in
    record {
      within = omega (arith, c.min-size.ensures, c.loop-done.invariant.within);
      contents = more_written m c.args.segment c.args.offset c.loop-done.done c.min-size.result
          (bytes_at m c.args.segment ((c.args.offset + c.loop-done.done) % 65536) c.min-size.result)
          (g.K.Sink.contents c.args.sink.now) (g.K.Sink.contents c.loop-done.sink) (g.K.Sink.contents c.write_part.new.sink)
          c.ranges.offset.fits c.loop-done.invariant.contents refl c.in_ok-write_part.ensures.written;
      counted = omega (arith, c.loop-done.invariant.counted, c.write_part.ensures.counted);
    }
