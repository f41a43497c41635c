use Rattle.std.proofs.Common.{arith}
use Rattle.dos_runner.proofs.WithBytes.{put_more}
use Rattle.dos_runner.proofs.transfer.scatter.Goals as goal

pub loop-byte-preserved : goal.loop-byte-preserved
loop-byte-preserved c =
    let place_is = c.loop-byte.invariant.place_is in
    record {
      place_is = omega (arith, place_is);
      stand = put_more c.args.machine.now c.loop-byte.machine c.store_byte.new.machine c.args.segment c.args.offset c.loop-byte.byte-index c.loop-byte.place
          c.args.bytes.now c.ranges.offset.fits c.loop-byte-test.true place_is c.loop-byte.invariant.stand c.store_byte.ensures;
    }
