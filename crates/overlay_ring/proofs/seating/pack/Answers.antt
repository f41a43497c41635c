use Rattle.std.proofs.Common.{◌+◌, ap, arith}
use Rattle.overlay_ring.specs.declared.seat.Seat.{Seat}
use Rattle.overlay_ring.specs.Seats.{paragraphs}
use Rattle.overlay_ring.proofs.Sizes.{packed_to-more, get_or-packed_to, paragraphs-more, paragraphs-take}
use Rattle.overlay_ring.proofs.seating.pack.Goals as goal

none : Seat
none = record { overlay = 0; at = 0; size = 0 }

pub loop-seat-preserved : goal.loop-seat-preserved
unfolding none
loop-seat-preserved c =
    let xs = c.deref_mut-seat-items.result.now in
    let i = c.loop-seat.seat-index in
    let same = get_or-packed_to 0 i xs none c.loop-seat-test.true in
    let size = rw (← c.loop-seat.invariant.moved) at (ap (λ (s : Seat). s.size) same) in
    record {
      moved = packed_to-more i xs c.loop-seat.seat-items none c.loop-seat.next c.loop-seat-test.true c.loop-seat.invariant.moved c.loop-seat.invariant.next;
      next = omega (arith, size, paragraphs-more xs i none c.loop-seat-test.true, c.loop-seat.invariant.next);
    }

pub overflow_add-next : goal.overflow_add-next
unfolding none
overflow_add-next c =
    let xs = c.deref_mut-seat-items.result.now in
    let i = c.loop-seat.seat-index in
    let same = get_or-packed_to 0 i xs none c.loop-seat-test.true in
    let size = rw (← c.loop-seat.invariant.moved) at (ap (λ (s : Seat). s.size) same) in
    omega (
      arith,
      size,
      paragraphs-more xs i none c.loop-seat-test.true,
      c.loop-seat.invariant.next,
      paragraphs-take (i + 1) xs,
      ap paragraphs c.deref_mut-seat-items.ensures.value,
    )
