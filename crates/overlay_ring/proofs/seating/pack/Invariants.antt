use Rattle.std.proofs.Common.{◌≡◌, take}
use Rattle.overlay_ring.specs.Seats.{paragraphs}
use Rattle.overlay_ring.proofs.Sizes.{packed_to}
use Rattle.overlay_ring.proofs.seating.pack.Given as goal

abbrev pub invariant-loop-seat : goal.invariant-loop-seat
invariant-loop-seat l = record {
  moved : l.seat-items ≡ packed_to 0 l.seat-index l.initial.seat-items;
  next : l.next ≡ paragraphs (take l.seat-index l.initial.seat-items);
}
