use Rattle.std.proofs.Common.{◌≡◌, ◌-◌, ◌≤◌, length, false, arith}
use Rattle.std.proofs.lemmas.Bool.{and_from, and_left, and_right, le-leb, lt-leb}
use Rattle.overlay_ring.proofs.Reprieve.{IsChosen, is_reprieved, chosen_goes, chosen_stays}
use Rattle.overlay_ring.proofs.seating.drop_unless_live.Goals as goal
use Rattle.overlay_ring.proofs.seating.drop_unless_live.Goals.{else-live-seat-via-then-live-seat+then-needed-most+else-needed-taken, else-live-seat-via-then-live-seat+else-needed-most, else-live-seat-via-else-live-seat}

pub loop-index-preserved-then-needed-taken : goal.loop-index-preserved-then-needed-taken
loop-index-preserved-then-needed-taken c =
    let old = c.args.seats.now.items in
    let i = c.loop-index.index in
    let known = c.loop-index.invariant in
    let chosen : IsChosen c.args.live.now c.args.most c.total-taken.result c.args.room c.args.count old i c.loop-index.seats.items c.loop-index.saved =
    record { seats = known.seats; sizes = known.saved } in
    let within : c.args.count ≤ length old = omega arith in
    let test = and_from _ _ c.if-live-seat.true (and_from _ _ (le-leb _ _ c.if-needed-most.true) (le-leb _ _ c.if-needed-taken.true)) in
    let next = chosen_stays c.args.live.now c.args.most c.total-taken.result c.args.room c.args.count old c.loop-index.seats.items i (i - 1) c.loop-index.saved c.index-seat.result.now chosen (omega arith) (omega arith) within c.index-seat.ensures test in
    record {
      seats = next.seats;
      saved = next.sizes;
      most = c.if-needed-most.true;
      gone = known.gone;
      within = omega arith;
      capacity = known.capacity;
    }

pub loop-index-preserved : goal.loop-index-preserved
loop-index-preserved c =
    let old = c.args.seats.now.items in
    let i = c.loop-index.index in
    let s = c.index-seat.result.now in
    let known = c.loop-index.invariant in
    let chosen : IsChosen c.args.live.now c.args.most c.total-taken.result c.args.room c.args.count old i c.loop-index.seats.items c.loop-index.saved =
    record { seats = known.seats; sizes = known.saved } in
    let within : c.args.count ≤ length old = omega arith in
    let test : is_reprieved c.args.live.now c.args.most c.total-taken.result c.args.room c.loop-index.saved s ≡ false =
    elim c.else-live-seat.branch [
      | else-live-seat-via-then-live-seat+then-needed-most+else-needed-taken w ↦ and_right _ _ (and_right _ _ (lt-leb _ _ w.if-needed-taken.false))
      | else-live-seat-via-then-live-seat+else-needed-most w ↦ and_right _ _ (and_left _ _ (lt-leb _ _ w.if-needed-most.false))
      | else-live-seat-via-else-live-seat w ↦ and_left _ _ w.if-live-seat.false
    ] in
    let next = chosen_goes c.args.live.now c.args.most c.total-taken.result c.args.room c.args.count old c.loop-index.seats.items c.remove.new.self.items i (i - 1) c.loop-index.saved s chosen (omega arith) (omega arith) within c.index-seat.ensures test c.remove.ensures.items in
    record {
      seats = next.seats;
      saved = next.sizes;
      most = known.most;
      gone = omega arith;
      within = omega arith;
      capacity = omega arith;
    }
