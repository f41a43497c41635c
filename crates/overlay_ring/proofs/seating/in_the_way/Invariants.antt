use Rattle.std.proofs.Common.{◌≡◌, take}
use Rattle.overlay_ring.specs.Ring.{drop_count}
use Rattle.overlay_ring.proofs.seating.in_the_way.Given as goal

abbrev pub invariant-loop-index : goal.invariant-loop-index
invariant-loop-index l = l.count ≡ drop_count l.at l.size (take l.index l.seats)
