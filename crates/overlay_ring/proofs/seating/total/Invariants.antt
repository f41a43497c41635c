use Rattle.std.proofs.Common.{◌≡◌, ◌≤◌, ◌*◌, take}
use Rattle.overlay_ring.specs.Seats.{paragraphs}
use Rattle.overlay_ring.proofs.seating.total.Given as goal

abbrev pub invariant-loop-seat : goal.invariant-loop-seat
invariant-loop-seat l = record {
  value : l.sum ≡ paragraphs (take l.seat-index l.seats);
  bound : l.sum ≤ 65535 * l.seat-index;
}
