use Rattle.std.proofs.Common.{◌≡◌, ℕ, length, List, Some, sym, ap, ◌∙◌, arith}
use Rattle.overlay_ring.specs.declared.seat.Seat.{Seat}
use Rattle.overlay_ring.specs.Seats.{paragraphs}
use Rattle.overlay_ring.specs.Ring.{Buffer, load_of}
use Rattle.overlay_ring.proofs.Drops.{drop_count-le}
use Rattle.overlay_ring.proofs.Counts.{length-lt_from_absent}
use Rattle.overlay_ring.proofs.Laws.{found-reprieved, retry_after-found}
use Rattle.overlay_ring.proofs.Wanted.{seated_from_place, absent_from_place, is_found, is_retried_by, all_known}
use Rattle.overlay_ring.proofs.ring.Ring.wanted_retry.Goals as goal

pub returns-in-Some : goal.returns-in-Some
returns-in-Some c =
    let b = c.self.inside in
    let place = rw c.deref.ensures.value at c.in-Some.ensures in
    let seated = seated_from_place c.args.overlay b.seats.items c.in-Some.place place in
    let found = is_found b.sizes.items b.room c.args.overlay b.seats.items c.self.invariant.1 seated in
    let with_seats : List Seat → Buffer = λ seats. record { sizes = b.sizes.items; room = b.room; seats = seats } in
    rw (← c.self.view_is) (record {
      ring = ap
          with_seats
          (retry_after-found b.sizes.items b.room c.args.live.now c.args.retry c.args.overlay b.seats.items seated);
      at = sym place;
      dropped = found.left;
      loaded = found.seated;
      legal = found.legal;
      reprieved = found-reprieved b.sizes.items b.room c.args.live.now c.args.overlay b.seats.items seated;
      within_retry = omega (arith, ap paragraphs found.ring);
      plain = λ _. found.ring;
    })

pub push_reserved-requires : goal.push_reserved-requires
push_reserved-requires c =
    let b = c.self.inside in
    let invariant = c.self.invariant in
    let absent = absent_from_place c.args.overlay b.seats.items (rw c.deref.ensures.value at c.in_default.ensures) in
    let known = rw (← c.self.view_is) at c.requires.known in
    omega (arith, length-lt_from_absent b.sizes.items b.room c.args.overlay b.seats.items invariant.1 known absent, invariant.2)

pub reprieve-dropped-requires-clause-dropped : goal.reprieve-dropped-requires-clause-dropped
reprieve-dropped-requires-clause-dropped c =
    let b = c.self.inside in
    let invariant = c.self.invariant in
    let load = load_of b.sizes.items b.room c.args.overlay b.seats.items in
    let made = rw (← c.self.view_is) at c.load-oldest.ensures in
    let second = ap (λ (p : Seat × ℕ). p.1) made in
    omega (arith, second, drop_count-le load.at load.size b.seats.items, c.push_reserved.ensures.len)

pub reprieve-dropped-requires-clause-few : goal.reprieve-dropped-requires-clause-few
reprieve-dropped-requires-clause-few c =
    let b = c.self.inside in
    let invariant = c.self.invariant in
    let absent = absent_from_place c.args.overlay b.seats.items (rw c.deref.ensures.value at c.in_default.ensures) in
    let known = rw (← c.self.view_is) at c.requires.known in
    let overlays = invariant.0 in
    omega (arith, length-lt_from_absent b.sizes.items b.room c.args.overlay b.seats.items invariant.1 known absent, overlays.few, c.push_reserved.ensures.len)

pub reprieve-dropped-requires-clause-known : goal.reprieve-dropped-requires-clause-known
reprieve-dropped-requires-clause-known c =
    let b = c.self.inside in
    let invariant = c.self.invariant in
    let absent = absent_from_place c.args.overlay b.seats.items (rw c.deref.ensures.value at c.in_default.ensures) in
    let known = rw (← c.self.view_is) at c.requires.known in
    let made = rw (← c.self.view_is) at c.load-oldest.ensures in
    let each = rw (← c.self.view_is) at c.requires.each in
    rw c.push_reserved.ensures.items (all_known b.sizes.items b.room c.args.overlay b.seats.items c.load-oldest.result (length c.args.live.now) invariant.1 known absent made each)

pub overflow_sub-len : goal.overflow_sub-len
overflow_sub-len c =
    let b = c.self.inside in
    let invariant = c.self.invariant in
    let absent = absent_from_place c.args.overlay b.seats.items (rw c.deref.ensures.value at c.in_default.ensures) in
    let known = rw (← c.self.view_is) at c.requires.known in
    let made = rw (← c.self.view_is) at c.load-oldest.ensures in
    let retried = is_retried_by b.sizes.items b.room c.args.live.now c.args.retry c.args.overlay b.seats.items c.reprieve-dropped.new.seats.items c.load-oldest.result c.reprieve-dropped.result c.load-oldest.result.0 invariant.0 invariant.1
    known absent made (rw c.push_reserved.ensures.items at c.reprieve-dropped.ensures.kept) (rw c.push_reserved.ensures.items at c.reprieve-dropped.ensures.went) in
    omega (arith, retried.filled, c.len.ensures)

pub index-newest-requires : goal.index-newest-requires
index-newest-requires c =
    let b = c.self.inside in
    let invariant = c.self.invariant in
    let absent = absent_from_place c.args.overlay b.seats.items (rw c.deref.ensures.value at c.in_default.ensures) in
    let known = rw (← c.self.view_is) at c.requires.known in
    let made = rw (← c.self.view_is) at c.load-oldest.ensures in
    let retried = is_retried_by b.sizes.items b.room c.args.live.now c.args.retry c.args.overlay b.seats.items c.reprieve-dropped.new.seats.items c.load-oldest.result c.reprieve-dropped.result c.load-oldest.result.0 invariant.0 invariant.1
    known absent made (rw c.push_reserved.ensures.items at c.reprieve-dropped.ensures.kept) (rw c.push_reserved.ensures.items at c.reprieve-dropped.ensures.went) in
    omega (arith, retried.filled, c.len.ensures)

pub overflow_cast-result : goal.overflow_cast-result
overflow_cast-result c =
    let b = c.self.inside in
    let invariant = c.self.invariant in
    let absent = absent_from_place c.args.overlay b.seats.items (rw c.deref.ensures.value at c.in_default.ensures) in
    let known = rw (← c.self.view_is) at c.requires.known in
    let load = load_of b.sizes.items b.room c.args.overlay b.seats.items in
    let made = rw (← c.self.view_is) at c.load-oldest.ensures in
    let second = ap (λ (p : Seat × ℕ). p.1) made in
    let overlays = invariant.0 in
    let went = c.reprieve-dropped.ensures.went in
    omega (
      arith,
      went,
      second,
      drop_count-le load.at load.size b.seats.items,
      overlays.few,
      length-lt_from_absent b.sizes.items b.room c.args.overlay b.seats.items invariant.1 known absent,
    )

pub invariant_of-self : goal.invariant_of-self
invariant_of-self c =
    let b = c.self.inside in
    let invariant = c.self.invariant in
    let absent = absent_from_place c.args.overlay b.seats.items (rw c.deref.ensures.value at c.in_default.ensures) in
    let known = rw (← c.self.view_is) at c.requires.known in
    let made = rw (← c.self.view_is) at c.load-oldest.ensures in
    let retried = is_retried_by b.sizes.items b.room c.args.live.now c.args.retry c.args.overlay b.seats.items c.reprieve-dropped.new.seats.items c.load-oldest.result c.reprieve-dropped.result c.load-oldest.result.0 invariant.0 invariant.1
    known absent made (rw c.push_reserved.ensures.items at c.reprieve-dropped.ensures.kept) (rw c.push_reserved.ensures.items at c.reprieve-dropped.ensures.went) in
    (invariant.0, retried.seating, omega (arith, invariant.2, c.reprieve-dropped.ensures.capacity, c.push_reserved.ensures.capacity))

pub returns : goal.returns
returns c =
    let b = c.self.inside in
    let invariant = c.self.invariant in
    let absent = absent_from_place c.args.overlay b.seats.items (rw c.deref.ensures.value at c.in_default.ensures) in
    let known = rw (← c.self.view_is) at c.requires.known in
    let made = rw (← c.self.view_is) at c.load-oldest.ensures in
    let newest = c.index-newest.result.now in
    let retried = is_retried_by b.sizes.items b.room c.args.live.now c.args.retry c.args.overlay b.seats.items c.reprieve-dropped.new.seats.items c.load-oldest.result c.reprieve-dropped.result newest invariant.0 invariant.1
    known absent made (rw c.push_reserved.ensures.items at c.reprieve-dropped.ensures.kept) (rw c.push_reserved.ensures.items at c.reprieve-dropped.ensures.went) in
    let count : c.len.result ≡ length c.reprieve-dropped.new.seats.items = omega (arith, c.len.ensures) in
    let here = rw count at c.index-newest.ensures in
    let with_seats : List Seat → Buffer = λ seats. record { sizes = b.sizes.items; room = b.room; seats = seats } in
    rw (← c.self.view_is) (record {
      ring = ap with_seats retried.ring;
      at = retried.place ∙ sym (ap (λ (s : Seat). Some s.at) here);
      dropped = retried.left;
      loaded = retried.absent;
      legal = retried.legal;
      reprieved = retried.reprieved_only;
      within_retry = retried.within;
      plain = retried.plain;
    })
