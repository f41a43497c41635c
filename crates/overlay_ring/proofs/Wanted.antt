-- What a request gives, where the overlay is there and where it has to be loaded.
use Rattle.std.proofs.Common.{◌≡◌, ◌≢◌, ℕ, ◌+◌, ◌-◌, ◌<◌, ◌≤◌, List, [], ◌∷◌, ◌++◌, length, length-append, take, drop, get_or, Bool, true, false, Some, None, is_some, IsTrue, slice_index, inl, inr, refl, sym, ap, ◌∙◌, arith}
use Rattle.std.specs.List.{All, AllByRecursion, Contains, list_any}
use Rattle.std.proofs.lemmas.Bool.{cases_Bool, cond-true, cond-false}
use Rattle.std.proofs.lemmas.List.{append-nil, drop-append-le, take-append-le}
use Rattle.std.proofs.lemmas.List.Elements.{All-weaker, All-contains_itself}
use Rattle.overlay_ring.specs.declared.seat.Seat.{Seat}
use Rattle.overlay_ring.specs.Table.{IsLegalTable}
use Rattle.overlay_ring.specs.Seats.{table_of, is_seated, place_of, overlaps, paragraphs, left_count, IsSeating, AreOverlays}
use Rattle.overlay_ring.specs.Ring.{Load, load_of, new_seat, after_load, ring_after, reprieved, reprieved_for, with_reprieved, retry_after}
use Rattle.overlay_ring.proofs.Drops.{drop_count-le, drop_count-least}
use Rattle.overlay_ring.proofs.Sound.{load-sound}
use Rattle.overlay_ring.proofs.Packing.{IsRoster, roster_from_seating, roster_push, retry-sound}
use Rattle.overlay_ring.proofs.Counts.{seated_self, left_count-none}
use Rattle.overlay_ring.proofs.Newest.{EndsWith, place_of-last, is_seated-last, last_seat, after_load-last, retry-last, is_some-place_of}
use Rattle.overlay_ring.proofs.Laws.{IsReprieved, retry_after-found, ring_after-unmoved, left_count-load, left_count-retry, retry_after-zero, retry-reprieved, retry-within}

pub seated_from_place : (wanted : ℕ) (seats : List Seat) (at : ℕ) → Some at ≡ place_of wanted seats → is_seated wanted seats ≡ true
seated_from_place wanted seats at e = sym (is_some-place_of wanted seats) ∙ sym (ap is_some e)

pub absent_from_place : (wanted : ℕ) (seats : List Seat) → None ≡ place_of wanted seats → is_seated wanted seats ≡ false
absent_from_place wanted seats e = sym (is_some-place_of wanted seats) ∙ sym (ap is_some e)

-- the overlay is there already
pub record IsFound (sizes : List ℕ) (room wanted : ℕ) (seats : List Seat) : Type 0 where
  pub ring : seats ≡ ring_after sizes room wanted seats
  pub left : 0 ≡ left_count seats seats
  pub seated : true ≡ is_seated wanted seats
  pub legal : IsLegalTable sizes room wanted (table_of seats)
  pub unmoved : All (λ s. s.overlay ≢ wanted → Contains seats s) seats

pub is_found : (sizes : List ℕ) (room wanted : ℕ) (seats : List Seat) → IsSeating sizes room seats → is_seated wanted seats ≡ true → IsFound sizes room wanted seats
is_found sizes room wanted seats seating seated = record {
  ring = sym (cond-true (is_seated wanted seats) seats (after_load (load_of sizes room wanted seats) wanted seats) seated);
  left = sym (left_count-none seats seats (rw append-nil at (seated_self seats [])));
  seated = sym seated;
  legal = record { sound = seating.sound; present = seated };
  unmoved = All-weaker (Contains seats) (λ s. s.overlay ≢ wanted → Contains seats s) (λ s h _. h) seats (All-contains_itself seats);
}

-- the overlay was loaded at that place, and so many left
pub record IsLoaded (sizes : List ℕ) (room wanted : ℕ) (seats new : List Seat) (at dropped : ℕ) : Type 0 where
  pub ring : new ≡ ring_after sizes room wanted seats
  pub place : place_of wanted new ≡ Some at
  pub left : dropped ≡ left_count seats new
  pub absent : false ≡ is_seated wanted seats
  pub seating : IsSeating sizes room new
  pub legal : IsLegalTable sizes room wanted (table_of new)
  pub unmoved : All (λ s. s.overlay ≢ wanted → Contains seats s) new
  pub shortest : (n : ℕ) → n < dropped → IsTrue (list_any (overlaps at (slice_index sizes wanted)) (drop n seats))

loaded_at : (sizes : List ℕ) (room wanted : ℕ) (seats : List Seat) → AreOverlays room sizes → IsSeating sizes room seats → wanted < length sizes → is_seated wanted seats ≡ false → let load = load_of sizes room wanted seats in IsLoaded sizes room wanted seats (after_load load wanted seats) load.at load.dropped
loaded_at sizes room wanted seats overlays seating known absent =
    let load = load_of sizes room wanted seats in
    let list = after_load load wanted seats in
    let last = after_load-last load wanted seats absent in
    let sound = load-sound sizes room wanted seats overlays known seating absent in
    record {
      ring = sym (cond-false (is_seated wanted seats) seats list absent);
      place = place_of-last wanted (new_seat load wanted) list last;
      left = sym (left_count-load sizes room wanted seats known seating overlays absent);
      absent = sym absent;
      seating = sound;
      legal = record { sound = sound.sound; present = is_seated-last wanted (new_seat load wanted) list last };
      unmoved = rw (cond-false (is_seated wanted seats) seats list absent) at (ring_after-unmoved sizes room wanted seats);
      shortest = drop_count-least load.at load.size seats;
    }

pub pushed_then_dropped : (load : Load) (wanted : ℕ) (seats : List Seat) → load.dropped ≤ length seats → drop load.dropped (seats ++ new_seat load wanted ∷ []) ≡ after_load load wanted seats
pushed_then_dropped load wanted seats short = drop-append-le load.dropped seats (new_seat load wanted ∷ []) short

pub is_loaded_by : (sizes : List ℕ) (room wanted : ℕ) (seats new : List Seat) (made : Seat × ℕ) → AreOverlays room sizes → IsSeating sizes room seats → wanted < length sizes → is_seated wanted seats ≡ false → made ≡ (new_seat (load_of sizes room wanted seats) wanted, (load_of sizes room wanted seats).dropped) → new ≡ drop made.1 (seats ++ made.0 ∷ []) → IsLoaded sizes room wanted seats new made.0.at made.1
is_loaded_by sizes room wanted seats new made overlays seating known absent e is =
    let load = load_of sizes room wanted seats in
    let list : new ≡ after_load load wanted seats =
    rw e at is ∙ pushed_then_dropped load wanted seats (drop_count-le load.at load.size seats) in
    rw (e, list) (loaded_at sizes room wanted seats overlays seating known absent)

-- the overlay was loaded with reprieve, now stands at that place, and so many left
pub record IsRetried (sizes : List ℕ) (room : ℕ) (live : List Bool) (most wanted : ℕ) (seats new : List Seat) (at dropped : ℕ) : Type 0 where
  pub ring : new ≡ retry_after sizes room live most wanted seats
  pub filled : 0 < length new
  pub place : place_of wanted new ≡ Some at
  pub left : dropped ≡ left_count seats new
  pub absent : false ≡ is_seated wanted seats
  pub seating : IsSeating sizes room new
  pub legal : IsLegalTable sizes room wanted (table_of new)
  pub reprieved_only : All (IsReprieved sizes room live wanted seats) new
  pub within : paragraphs new ≤ paragraphs (ring_after sizes room wanted seats) + most
  pub plain : most ≡ 0 → new ≡ ring_after sizes room wanted seats

filled_from_last : (wanted : ℕ) (last : Seat) (xs : List Seat) → EndsWith wanted last xs → 0 < length xs
filled_from_last wanted last xs h = rw h.split (omega (arith, length-append h.front (last ∷ [])))

retried_at : (sizes : List ℕ) (room : ℕ) (live : List Bool) (most wanted : ℕ) (seats : List Seat) (dropped : ℕ) (d : Seat) → AreOverlays room sizes → IsSeating sizes room seats → wanted < length sizes → is_seated wanted seats ≡ false → let load = load_of sizes room wanted seats in let chosen = reprieved_for live most load room wanted seats in let new = with_reprieved chosen (after_load load wanted seats) in dropped + length chosen ≡ load.dropped → IsRetried sizes room live most wanted seats new (get_or new (length new - 1) d).at dropped
retried_at sizes room live most wanted seats dropped d overlays seating known absent went =
    let load = load_of sizes room wanted seats in
    let list = after_load load wanted seats in
    let chosen = reprieved_for live most load room wanted seats in
    let new = with_reprieved chosen list in
    let ends = retry-last live most room load wanted seats absent in
    let sound = retry-sound sizes room live most wanted seats overlays known seating absent in
    let here : new ≡ retry_after sizes room live most wanted seats = sym (cond-false (is_seated wanted seats) seats new absent) in
    record {
      ring = here;
      filled = filled_from_last wanted ends.0 new ends.1;
      place = place_of-last wanted ends.0 new ends.1 ∙ sym (ap (λ (s : Seat). Some s.at) (last_seat wanted ends.0 new d ends.1));
      left = omega (arith, went, left_count-retry sizes room live most wanted seats known seating absent);
      absent = sym absent;
      seating = sound;
      legal = record { sound = sound.sound; present = is_seated-last wanted ends.0 new ends.1 };
      reprieved_only = retry-reprieved sizes room live most wanted seats absent;
      within = retry-within sizes room live most wanted seats absent;
      plain = λ zero_most. here ∙ rw zero_most (retry_after-zero sizes room live wanted seats overlays seating);
    }

pub is_retried_by : (sizes : List ℕ) (room : ℕ) (live : List Bool) (most wanted : ℕ) (seats new : List Seat) (made : Seat × ℕ) (dropped : ℕ) (d : Seat) → AreOverlays room sizes → IsSeating sizes room seats → wanted < length sizes → is_seated wanted seats ≡ false → made ≡ (new_seat (load_of sizes room wanted seats) wanted, (load_of sizes room wanted seats).dropped) → let all = seats ++ made.0 ∷ [] in let list = drop made.1 all in let chosen = reprieved live most (paragraphs list) room (take made.1 all) in new ≡ with_reprieved chosen list → dropped + length chosen ≡ made.1 → IsRetried sizes room live most wanted seats new (get_or new (length new - 1) d).at dropped
is_retried_by sizes room live most wanted seats new made dropped d overlays seating known absent e is went =
    let load = load_of sizes room wanted seats in
    let list = after_load load wanted seats in
    let short = drop_count-le load.at load.size seats in
    let dropped_all = pushed_then_dropped load wanted seats short in
    let taken_all = take-append-le load.dropped seats (new_seat load wanted ∷ []) short in
    let is_here = rw (e, dropped_all, taken_all) at is in
    let went_here = rw (e, dropped_all, taken_all) at went in
    rw is_here (retried_at sizes room live most wanted seats dropped d overlays seating known absent went_here)

known_from_roster : (sizes : List ℕ) (xs : List Seat) (count : ℕ) → IsRoster sizes xs → count ≡ length sizes → AllByRecursion (λ s. s.overlay < count) xs
known_from_roster sizes [] count h e = tt
known_from_roster sizes (x ∷ xs) count h e = (omega (arith, h.0), known_from_roster sizes xs count h.3 e)

-- each overlay of the list, the loaded one too, is one of so many
pub all_known : (sizes : List ℕ) (room wanted : ℕ) (seats : List Seat) (made : Seat × ℕ) (count : ℕ) → IsSeating sizes room seats → wanted < length sizes → is_seated wanted seats ≡ false → made ≡ (new_seat (load_of sizes room wanted seats) wanted, (load_of sizes room wanted seats).dropped) → count ≡ length sizes → AllByRecursion (λ s. s.overlay < count) (seats ++ made.0 ∷ [])
all_known sizes room wanted seats made count seating known absent e each =
    let new = new_seat (load_of sizes room wanted seats) wanted in
    rw e (known_from_roster sizes (seats ++ new ∷ []) count (roster_push sizes seats new (roster_from_seating sizes room seats seating) known refl absent) each)

-- whatever was wanted, the ring's table is legal for it
pub ring_after-legal : (sizes : List ℕ) (room wanted : ℕ) (seats : List Seat) → AreOverlays room sizes → IsSeating sizes room seats → wanted < length sizes → IsLegalTable sizes room wanted (table_of (ring_after sizes room wanted seats))
ring_after-legal sizes room wanted seats overlays seating known =
    elim (cases_Bool (is_seated wanted seats)) [
      | inl seated ↦
          let found = is_found sizes room wanted seats seating seated in
          rw (← found.ring) found.legal
      | inr absent ↦
          let loaded = loaded_at sizes room wanted seats overlays seating known absent in
          rw (← loaded.ring) loaded.legal
    ]

pub retry_after-legal : (sizes : List ℕ) (room : ℕ) (live : List Bool) (most wanted : ℕ) (seats : List Seat) → AreOverlays room sizes → IsSeating sizes room seats → wanted < length sizes → IsLegalTable sizes room wanted (table_of (retry_after sizes room live most wanted seats))
retry_after-legal sizes room live most wanted seats overlays seating known =
    elim (cases_Bool (is_seated wanted seats)) [
      | inl seated ↦
          let found = is_found sizes room wanted seats seating seated in
          rw (← retry_after-found sizes room live most wanted seats seated) found.legal
      | inr absent ↦
          let load = load_of sizes room wanted seats in
          let list = after_load load wanted seats in
          let chosen = reprieved_for live most load room wanted seats in
          let ends = retry-last live most room load wanted seats absent in
          let sound = retry-sound sizes room live most wanted seats overlays known seating absent in
          rw (cond-false (is_seated wanted seats) seats (with_reprieved chosen list) absent)
          (record { sound = sound.sound; present = is_seated-last wanted ends.0 (with_reprieved chosen list) ends.1 })
    ]
