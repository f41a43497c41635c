use Rattle.std.proofs.Common.{arith}
use Rattle.overlay_ring.proofs.Sizes.{paragraphs-more}
use Rattle.overlay_ring.proofs.seating.total.Goals as goal

pub loop-seat-preserved : goal.loop-seat-preserved
loop-seat-preserved c =
    record {
      value = omega (arith, c.loop-seat.invariant.value, paragraphs-more c.args.seats.now c.loop-seat.seat-index (record { overlay = 0; at = 0; size = 0 }) c.loop-seat-test.true);
      bound = omega arith;
    }
