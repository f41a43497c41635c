use Rattle.std.proofs.Common.{sym, ◌∙◌}
use Rattle.overlay_ring.proofs.Drops.{drop_count-more}
use Rattle.overlay_ring.proofs.seating.in_the_way.Goals as goal
use Rattle.overlay_ring.proofs.seating.in_the_way.Goals.{then-overlaps, else-overlaps}

pub loop-index-preserved : goal.loop-index-preserved
loop-index-preserved c =
    let seat_at = drop_count-more c.args.at c.args.size c.args.seats.now c.loop-index.index _ c.overlaps.result c.loop-index-test.true c.overlaps.ensures in
    elim c.if-overlaps.branch [
      | then-overlaps w ↦ w.count-is ∙ sym (rw w.if-overlaps.true at seat_at)
      | else-overlaps w ↦ w.count-is ∙ c.loop-index.invariant ∙ sym (rw w.if-overlaps.false at seat_at)
    ]
