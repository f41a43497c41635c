use Rattle.std.proofs.Common.{◌≡◌, ◌++◌, ◌+◌, ◌≤◌, take, drop, vec_len, vec_capacity}
use Rattle.overlay_ring.specs.Seats.{paragraphs}
use Rattle.overlay_ring.specs.Ring.{reprieved}
use Rattle.overlay_ring.proofs.seating.drop_unless_live.Given as goal

abbrev pub invariant-loop-index : goal.invariant-loop-index
invariant-loop-index l =
    let chosen = reprieved l.live l.most l.taken l.room (drop l.index (take l.count l.initial.seats.items)) in
    record {
      seats : l.seats.items ≡ take l.index l.initial.seats.items ++ (chosen ++ drop l.count l.initial.seats.items);
      saved : l.saved ≡ paragraphs chosen;
      most : l.saved ≤ l.most;
      gone : l.gone + vec_len l.seats ≡ vec_len l.initial.seats;
      within : l.gone + l.index ≤ l.count;
      capacity : vec_capacity l.seats ≡ vec_capacity l.initial.seats;
    }

abbrev pub decreases-loop-index : goal.decreases-loop-index
decreases-loop-index l = l.index
