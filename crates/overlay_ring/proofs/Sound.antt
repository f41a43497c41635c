-- A list of seats stays a table where its oldest are dropped and where a seat that overlaps none is added.
use Rattle.std.proofs.Common.{◌≡◌, ℕ, zero, suc, ◌+◌, ◌<◌, ◌≤◌, List, [], ◌∷◌, ◌++◌, length, drop, false, nat_le, nat_lt, ◌==◌, refl, inl, inr, arith}
use Rattle.std.specs.List.{AllByRecursion, list_any}
use Rattle.std.proofs.lemmas.Bool.{and_cases, or_parts, ltb-false, leb-true, eqb-false, cond_both}
use Rattle.overlay_ring.specs.declared.seat.Seat.{Seat}
use Rattle.overlay_ring.specs.Table.{Entry, LiesInside, AreApart, IsTable}
use Rattle.overlay_ring.specs.Seats.{entry_of, table_of, is_seated, overlaps, HasItsSize, IsSeating, AreOverlays}
use Rattle.overlay_ring.specs.Ring.{load_of, new_seat, after_load, end_of_newest, next_place}
use Rattle.overlay_ring.proofs.Drops.{drop_count-clears}

all_entries_push : (P : Entry → Type 0) (xs : List Seat) (s : Seat) → AllByRecursion P (table_of xs) → P (entry_of s) → AllByRecursion P (table_of (xs ++ s ∷ []))
all_entries_push P [] s h p = (p, tt)
all_entries_push P (x ∷ xs) s h p = (h.0, all_entries_push P xs s h.1 p)

all_seats_push : (P : Seat → Type 0) (xs : List Seat) (s : Seat) → AllByRecursion P xs → P s → AllByRecursion P (xs ++ s ∷ [])
all_seats_push P [] s h p = (p, tt)
all_seats_push P (x ∷ xs) s h p = (h.0, all_seats_push P xs s h.1 p)

all_drop : (P : Seat → Type 0) (n : ℕ) (xs : List Seat) → AllByRecursion P xs → AllByRecursion P (drop n xs)
all_drop P zero xs h = h
all_drop P (suc n) [] h = h
all_drop P (suc n) (x ∷ xs) h = all_drop P n xs h.1

table_drop : (sizes : List ℕ) (room n : ℕ) (xs : List Seat) → IsTable sizes room (table_of xs) → IsTable sizes room (table_of (drop n xs))
table_drop sizes room zero xs h = h
table_drop sizes room (suc n) [] h = h
table_drop sizes room (suc n) (x ∷ xs) h = table_drop sizes room n xs h.2

pub is_seated-drop : (overlay n : ℕ) (xs : List Seat) → is_seated overlay xs ≡ false → is_seated overlay (drop n xs) ≡ false
is_seated-drop overlay zero xs h = h
is_seated-drop overlay (suc n) [] h = h
is_seated-drop overlay (suc n) (x ∷ xs) h = is_seated-drop overlay n xs (or_parts _ _ h).1

apart_from_clear : (sizes : List ℕ) (x s : Seat) → HasItsSize sizes x → HasItsSize sizes s → (x.overlay == s.overlay) ≡ false → overlaps s.at s.size x ≡ false → AreApart sizes (entry_of x) (entry_of s)
apart_from_clear sizes x s sized_x sized_s different clear = record {
  different = eqb-false _ _ different;
  disjoint = elim (and_cases (nat_lt s.at (x.at + x.size)) (nat_lt x.at (s.at + s.size)) clear)
      [ inl e ↦ inl (omega (arith, ltb-false s.at (x.at + x.size) e)) | inr e ↦ inr (omega (arith, ltb-false x.at (s.at + s.size) e)) ];
}

table_push : (sizes : List ℕ) (room : ℕ) (xs : List Seat) (s : Seat) → AllByRecursion (HasItsSize sizes) xs → IsTable sizes room (table_of xs) → HasItsSize sizes s → LiesInside sizes room (entry_of s) → list_any (overlaps s.at s.size) xs ≡ false → is_seated s.overlay xs ≡ false → IsTable sizes room (table_of (xs ++ s ∷ []))
table_push sizes room [] s sized sound own inside clear absent = (inside, tt, tt)
table_push sizes room (x ∷ xs) s sized sound own inside clear absent =
    let clears = or_parts _ _ clear in
    let absents = or_parts _ _ absent in (
      sound.0,
      all_entries_push (AreApart sizes (entry_of x)) xs s sound.1 (apart_from_clear sizes x s sized.0 own absents.0 clears.0),
      table_push sizes room xs s sized.1 sound.2 own inside clears.1 absents.1,
    )

next_place-fits : (room size : ℕ) (seats : List Seat) → size ≤ room → next_place room size seats + size ≤ room
next_place-fits room size seats h =
    cond_both (nat_le (end_of_newest seats + size) room) (end_of_newest seats) 0 (λ at. at + size ≤ room)
    (λ e. leb-true _ _ e) (λ _. omega arith)

-- the overlay that is loaded lies inside the buffer, apart from those that stay
pub load-sound : (sizes : List ℕ) (room wanted : ℕ) (seats : List Seat) → AreOverlays room sizes → wanted < length sizes → IsSeating sizes room seats → is_seated wanted seats ≡ false → IsSeating sizes room (after_load (load_of sizes room wanted seats) wanted seats)
load-sound sizes room wanted seats overlays known seating absent =
    let load = load_of sizes room wanted seats in
    let new = new_seat load wanted in
    let fits = overlays.fit wanted 0 known in
    record {
      sized = all_seats_push (HasItsSize sizes) (drop load.dropped seats) new (all_drop (HasItsSize sizes) load.dropped seats seating.sized) refl;
      sound = table_push sizes room (drop load.dropped seats) new (all_drop (HasItsSize sizes) load.dropped seats seating.sized)
          (table_drop sizes room load.dropped seats seating.sound) refl
          (record { known = known; inside = next_place-fits room load.size seats fits.1 })
          (drop_count-clears load.at load.size seats) (is_seated-drop wanted load.dropped seats absent);
    }
