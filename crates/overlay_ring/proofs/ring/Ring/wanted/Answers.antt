use Rattle.std.proofs.Common.{ℕ, List, sym, ap, arith}
use Rattle.overlay_ring.specs.declared.seat.Seat.{Seat}
use Rattle.overlay_ring.specs.Ring.{Buffer, load_of}
use Rattle.overlay_ring.proofs.Drops.{drop_count-le}
use Rattle.overlay_ring.proofs.Counts.{length-lt_from_absent}
use Rattle.overlay_ring.proofs.Wanted.{seated_from_place, absent_from_place, is_found, is_loaded_by}
use Rattle.overlay_ring.proofs.ring.Ring.wanted.Goals as goal

pub returns-in-Some : goal.returns-in-Some
returns-in-Some c =
    let b = c.self.inside in
    let place = rw c.deref.ensures.value at c.in-Some.ensures in
    let found = is_found b.sizes.items b.room c.args.overlay b.seats.items c.self.invariant.1 (seated_from_place c.args.overlay b.seats.items c.in-Some.at place) in
    let with_seats : List Seat → Buffer = λ seats. record { sizes = b.sizes.items; room = b.room; seats = seats } in
    rw (← c.self.view_is) (record {
      ring = ap with_seats found.ring;
      at = sym place;
      dropped = found.left;
      loaded = found.seated;
      legal = found.legal;
      unmoved = found.unmoved;
      shortest = λ n below. absurd (omega arith);
    })

pub push_reserved-requires : goal.push_reserved-requires
push_reserved-requires c =
    let b = c.self.inside in
    let absent = absent_from_place c.args.overlay b.seats.items (rw c.deref.ensures.value at c.in_default.ensures) in
    let known = rw (← c.self.view_is) at c.requires in
    let invariant = c.self.invariant in
    omega (arith, length-lt_from_absent b.sizes.items b.room c.args.overlay b.seats.items invariant.1 known absent, invariant.2)

pub drop_oldest-requires : goal.drop_oldest-requires
drop_oldest-requires c =
    let b = c.self.inside in
    let load = load_of b.sizes.items b.room c.args.overlay b.seats.items in
    let made = ap (λ (p : Seat × ℕ). p.1) (rw (← c.self.view_is) at c.load-oldest.ensures) in
    omega (arith, made, drop_count-le load.at load.size b.seats.items, c.push_reserved.ensures.len)

pub overflow_cast-result : goal.overflow_cast-result
overflow_cast-result c =
    let b = c.self.inside in
    let load = load_of b.sizes.items b.room c.args.overlay b.seats.items in
    let made = ap (λ (p : Seat × ℕ). p.1) (rw (← c.self.view_is) at c.load-oldest.ensures) in
    let invariant = c.self.invariant in
    let overlays = invariant.0 in
    let absent = absent_from_place c.args.overlay b.seats.items (rw c.deref.ensures.value at c.in_default.ensures) in
    let known = rw (← c.self.view_is) at c.requires in
    omega (
      arith,
      made,
      drop_count-le load.at load.size b.seats.items,
      overlays.few,
      length-lt_from_absent b.sizes.items b.room c.args.overlay b.seats.items invariant.1 known absent,
    )

pub invariant_of-self : goal.invariant_of-self
invariant_of-self c =
    let b = c.self.inside in
    let invariant = c.self.invariant in
    let absent = absent_from_place c.args.overlay b.seats.items (rw c.deref.ensures.value at c.in_default.ensures) in
    let loaded = is_loaded_by b.sizes.items b.room c.args.overlay b.seats.items c.drop_oldest.new.seats.items c.load-oldest.result invariant.0 invariant.1
    (rw (← c.self.view_is) at c.requires) absent (rw (← c.self.view_is) at c.load-oldest.ensures) (rw c.push_reserved.ensures.items at c.drop_oldest.ensures.kept) in
    (invariant.0, loaded.seating, omega (arith, invariant.2, c.drop_oldest.ensures.capacity, c.push_reserved.ensures.capacity))

pub returns : goal.returns
returns c =
    let b = c.self.inside in
    let invariant = c.self.invariant in
    let absent = absent_from_place c.args.overlay b.seats.items (rw c.deref.ensures.value at c.in_default.ensures) in
    let loaded = is_loaded_by b.sizes.items b.room c.args.overlay b.seats.items c.drop_oldest.new.seats.items c.load-oldest.result invariant.0 invariant.1
    (rw (← c.self.view_is) at c.requires) absent (rw (← c.self.view_is) at c.load-oldest.ensures) (rw c.push_reserved.ensures.items at c.drop_oldest.ensures.kept) in
    let with_seats : List Seat → Buffer = λ seats. record { sizes = b.sizes.items; room = b.room; seats = seats } in
    rw (← c.self.view_is) (record {
      ring = ap with_seats loaded.ring;
      at = loaded.place;
      dropped = loaded.left;
      loaded = loaded.absent;
      legal = loaded.legal;
      unmoved = loaded.unmoved;
      shortest = loaded.shortest;
    })
