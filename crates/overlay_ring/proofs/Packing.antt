-- Seats of different overlays that fit the buffer together are a table once they are packed.
use Rattle.std.proofs.Common.{◌≡◌, ◌≢◌, ℕ, ◌+◌, ◌<◌, ◌≤◌, List, [], ◌∷◌, ◌++◌, length, take, drop, Bool, false, ◌&&◌, ◌||◌, ◌==◌, nat_le, ◌⊎◌, refl, ap, inl, inr, arith}
use Rattle.std.specs.List.{AllByRecursion}
use Rattle.std.proofs.lemmas.Bool.{and_parts, or_parts, leb-true, eqb-false, cond_both}
use Rattle.std.proofs.lemmas.List.{append_assoc, take-append-drop}
use Rattle.overlay_ring.specs.declared.seat.Seat.{Seat}
use Rattle.overlay_ring.specs.Table.{Entry, end_of, AreApart, IsTable}
use Rattle.overlay_ring.specs.Seats.{entry_of, table_of, is_seated, paragraphs, HasItsSize, IsSeating, AreOverlays}
use Rattle.overlay_ring.specs.Ring.{load_of, new_seat, after_load, is_live, reprieved, reprieved_for, packed, with_reprieved}
use Rattle.overlay_ring.proofs.Sizes.{paragraphs-append}
use Rattle.overlay_ring.proofs.Reprieve.{is_reprieved}
use Rattle.overlay_ring.proofs.Sound.{load-sound}

-- no seat here is of that overlay
abbrev pub IsOutOf : ℕ → List Seat → Type 0
IsOutOf overlay xs = AllByRecursion (λ t. overlay ≢ t.overlay) xs

-- seats of different overlays, each as large as its overlay
abbrev pub IsRoster : List ℕ → List Seat → Type 0
IsRoster sizes [] = Unit {0}
IsRoster sizes (s ∷ xs) = (s.overlay < length sizes) × HasItsSize sizes s × IsOutOf s.overlay xs × IsRoster sizes xs

out_from_apart : (sizes : List ℕ) (e : Entry) (xs : List Seat) → AllByRecursion (AreApart sizes e) (table_of xs) → IsOutOf e.overlay xs
out_from_apart sizes e [] h = tt
out_from_apart sizes e (x ∷ xs) h = let apart = h.0 in (apart.different, out_from_apart sizes e xs h.1)

roster_from_table : (sizes : List ℕ) (room : ℕ) (xs : List Seat) → AllByRecursion (HasItsSize sizes) xs → IsTable sizes room (table_of xs) → IsRoster sizes xs
roster_from_table sizes room [] sized sound = tt
roster_from_table sizes room (x ∷ xs) sized sound =
    let inside = sound.0 in
    (inside.known, sized.0, out_from_apart sizes (entry_of x) xs sound.1, roster_from_table sizes room xs sized.1 sound.2)

pub roster_from_seating : (sizes : List ℕ) (room : ℕ) (xs : List Seat) → IsSeating sizes room xs → IsRoster sizes xs
roster_from_seating sizes room xs h = roster_from_table sizes room xs h.sized h.sound

out_push : (overlay : ℕ) (xs : List Seat) (s : Seat) → IsOutOf overlay xs → overlay ≢ s.overlay → IsOutOf overlay (xs ++ s ∷ [])
out_push overlay [] s h p = (p, tt)
out_push overlay (x ∷ xs) s h p = (h.0, out_push overlay xs s h.1 p)

pub roster_push : (sizes : List ℕ) (xs : List Seat) (s : Seat) → IsRoster sizes xs → s.overlay < length sizes → HasItsSize sizes s → is_seated s.overlay xs ≡ false → IsRoster sizes (xs ++ s ∷ [])
roster_push sizes [] s h known own absent = (known, own, tt, tt)
roster_push sizes (x ∷ xs) s h known own absent =
    let absents = or_parts _ _ absent in
    (h.0, h.1, out_push x.overlay xs s h.2 (eqb-false _ _ absents.0), roster_push sizes xs s h.3 known own absents.1)

pub out_chosen : (live : List Bool) (most taken room overlay : ℕ) (xs ys : List Seat) → IsOutOf overlay (xs ++ ys) → IsOutOf overlay (reprieved live most taken room xs ++ ys)
out_chosen live most taken room overlay [] ys h = h
out_chosen live most taken room overlay (x ∷ xs) ys h =
    let more = out_chosen live most taken room overlay xs ys h.1 in
    let chosen = reprieved live most taken room xs in
    cond_both (is_reprieved live most taken room (paragraphs chosen) x) (x ∷ chosen) chosen (λ zs. IsOutOf overlay (zs ++ ys))
    (λ _. (h.0, more)) (λ _. more)

pub roster_chosen : (live : List Bool) (most taken room : ℕ) (sizes : List ℕ) (xs ys : List Seat) → IsRoster sizes (xs ++ ys) → IsRoster sizes (reprieved live most taken room xs ++ ys)
roster_chosen live most taken room sizes [] ys h = h
roster_chosen live most taken room sizes (x ∷ xs) ys h =
    let more = roster_chosen live most taken room sizes xs ys h.3 in
    let chosen = reprieved live most taken room xs in
    cond_both (is_reprieved live most taken room (paragraphs chosen) x) (x ∷ chosen) chosen (λ zs. IsRoster sizes (zs ++ ys))
    (λ _. (h.0, h.1, out_chosen live most taken room x.overlay xs ys h.2, more)) (λ _. more)

-- the chosen seats keep to the two bounds
pub record AreWithin (most taken room : ℕ) (xs : List Seat) : Type 0 where
  pub below_most : paragraphs xs ≤ most
  pub below_room : paragraphs xs + taken ≤ room

pub reprieved-within : (live : List Bool) (most taken room : ℕ) (xs : List Seat) → (reprieved live most taken room xs ≡ []) ⊎ AreWithin most taken room (reprieved live most taken room xs)
reprieved-within live most taken room [] = inl refl
reprieved-within live most taken room (x ∷ xs) =
    let chosen = reprieved live most taken room xs in
    cond_both (is_reprieved live most taken room (paragraphs chosen) x) (x ∷ chosen) chosen (λ zs. (zs ≡ []) ⊎ AreWithin most taken room zs)
    (λ test.
    let needed = paragraphs chosen + x.size in
    let small = nat_le needed most in
    let fits = nat_le (needed + taken) room in
    let bounds = and_parts small fits (and_parts (is_live live x.overlay) (small && fits) test).1 in
    inr (record {
      below_most = omega (arith, leb-true needed most bounds.0);
      below_room = omega (arith, leb-true (needed + taken) room bounds.1);
    })) (λ _. reprieved-within live most taken room xs)

packed_apart : (sizes : List ℕ) (e : Entry) (from : ℕ) (xs : List Seat) → end_of sizes e ≤ from → IsOutOf e.overlay xs → AllByRecursion (AreApart sizes e) (table_of (packed from xs))
packed_apart sizes e from [] h out = tt
packed_apart sizes e from (x ∷ xs) h out =
    (record { different = out.0; disjoint = inl h }, packed_apart sizes e (from + x.size) xs (omega arith) out.1)

packed_table : (sizes : List ℕ) (room from : ℕ) (xs : List Seat) → IsRoster sizes xs → from + paragraphs xs ≤ room → IsTable sizes room (table_of (packed from xs))
packed_table sizes room from [] h fits = tt
packed_table sizes room from (x ∷ xs) h fits =
    let size = h.1 in (
      record { known = h.0; inside = omega arith },
      packed_apart sizes (record { overlay = x.overlay; at = from }) (from + x.size) xs (omega arith) h.2,
      packed_table sizes room (from + x.size) xs h.3 (omega arith),
    )

packed_sized : (sizes : List ℕ) (from : ℕ) (xs : List Seat) → IsRoster sizes xs → AllByRecursion (HasItsSize sizes) (packed from xs)
packed_sized sizes from [] h = tt
packed_sized sizes from (x ∷ xs) h = (h.1, packed_sized sizes (from + x.size) xs h.3)

pub packed-sound : (sizes : List ℕ) (room : ℕ) (xs : List Seat) → IsRoster sizes xs → paragraphs xs ≤ room → IsSeating sizes room (packed 0 xs)
packed-sound sizes room xs h fits = record {
  sized = packed_sized sizes 0 xs h;
  sound = packed_table sizes room 0 xs h (omega arith);
}

pub is_seated-packed : (overlay from : ℕ) (xs : List Seat) → is_seated overlay (packed from xs) ≡ is_seated overlay xs
is_seated-packed overlay from [] = refl
is_seated-packed overlay from (x ∷ xs) = ap (λ b. (x.overlay == overlay) || b) (is_seated-packed overlay (from + x.size) xs)

pub with_reprieved-sound : (sizes : List ℕ) (room most : ℕ) (xs list : List Seat) → (xs ≡ []) ⊎ AreWithin most (paragraphs list) room xs → IsRoster sizes (xs ++ list) → IsSeating sizes room list → IsSeating sizes room (with_reprieved xs list)
with_reprieved-sound sizes room most [] list within roster seating = seating
with_reprieved-sound sizes room most (x ∷ xs) list (inl e) roster seating = absurd cc
with_reprieved-sound sizes room most (x ∷ xs) list (inr h) roster seating =
    packed-sound sizes room (x ∷ xs ++ list) roster (omega (arith, paragraphs-append (x ∷ xs) list, h.below_room))

pub with_reprieved-some : (chosen list : List Seat) → 0 < length chosen → packed 0 (chosen ++ list) ≡ with_reprieved chosen list
with_reprieved-some [] list h = absurd (omega arith)
with_reprieved-some (x ∷ chosen) list h = refl

pub with_reprieved-none : (chosen list : List Seat) → length chosen ≡ 0 → chosen ++ list ≡ with_reprieved chosen list
with_reprieved-none [] list h = refl
with_reprieved-none (x ∷ chosen) list h = absurd (omega arith)

-- the dropped seats, then those that stay, then the new one: all different
pub roster_of_all : (sizes : List ℕ) (room wanted : ℕ) (seats : List Seat) → wanted < length sizes → IsSeating sizes room seats → is_seated wanted seats ≡ false → IsRoster sizes (take (load_of sizes room wanted seats).dropped seats ++ after_load (load_of sizes room wanted seats) wanted seats)
roster_of_all sizes room wanted seats known seating absent =
    let load = load_of sizes room wanted seats in
    let new = new_seat load wanted in
    rw (← append_assoc (take load.dropped seats) (drop load.dropped seats) (new ∷ []), take-append-drop load.dropped seats)
    (roster_push sizes seats new (roster_from_seating sizes room seats seating) known refl absent)

pub retry-sound : (sizes : List ℕ) (room : ℕ) (live : List Bool) (most wanted : ℕ) (seats : List Seat) → AreOverlays room sizes → wanted < length sizes → IsSeating sizes room seats → is_seated wanted seats ≡ false → IsSeating sizes room (with_reprieved (reprieved_for live most (load_of sizes room wanted seats) room wanted seats) (after_load (load_of sizes room wanted seats) wanted seats))
retry-sound sizes room live most wanted seats overlays known seating absent =
    let load = load_of sizes room wanted seats in
    let list = after_load load wanted seats in
    let gone = take load.dropped seats in
    with_reprieved-sound sizes room most (reprieved live most (paragraphs list) room gone) list
    (reprieved-within live most (paragraphs list) room gone)
    (roster_chosen live most (paragraphs list) room sizes gone list (roster_of_all sizes room wanted seats known seating absent))
    (load-sound sizes room wanted seats overlays known seating absent)
