-- How many overlays leave the list, and how many seats there can be.
use Rattle.std.proofs.Common.{◌≡◌, ◌≢◌, ℕ, suc, ◌+◌, ◌<◌, ◌≤◌, List, [], ◌∷◌, ◌++◌, length, length-append, slice_index, map, Bool, true, false, ◌==◌, eqb, refl, sym, inl, inr, arith}
use Rattle.std.specs.List.{AllByRecursion, list_any, IsDistinct}
use Rattle.std.proofs.lemmas.Bool.{or_cases, or_left, or_right, eq-eqb, ne_eqb, eqb-true, cond_both}
use Rattle.std.proofs.lemmas.Map.Steps.{length-le_from_distinct_below}
use Rattle.std.proofs.lemmas.List.{length-map}
use Rattle.overlay_ring.specs.declared.seat.Seat.{Seat}
use Rattle.overlay_ring.specs.Seats.{is_seated, left_count, paragraphs, IsSeating}
use Rattle.overlay_ring.specs.Ring.{reprieved, packed}
use Rattle.overlay_ring.proofs.Reprieve.{is_reprieved}
use Rattle.overlay_ring.proofs.Packing.{IsOutOf, IsRoster, out_chosen, roster_from_seating, roster_push, is_seated-packed}

pub is_seated_from_out : (overlay : ℕ) (xs : List Seat) → IsOutOf overlay xs → is_seated overlay xs ≡ false
is_seated_from_out overlay [] out = refl
is_seated_from_out overlay (x ∷ xs) out =
    let other : x.overlay ≢ overlay = λ e. out.0 (sym e) in
    rw (ne_eqb x.overlay overlay other) (is_seated_from_out overlay xs out.1)

pub left_count-append : (xs ys new : List Seat) → left_count (xs ++ ys) new ≡ left_count xs new + left_count ys new
left_count-append [] ys new = omega arith
left_count-append (x ∷ xs) ys new = omega (arith, left_count-append xs ys new)

-- seats that stay
abbrev pub AreSeatedIn : List Seat → List Seat → Type 0
AreSeatedIn new xs = AllByRecursion (λ s. is_seated s.overlay new ≡ true) xs

pub left_count-none : (xs new : List Seat) → AreSeatedIn new xs → left_count xs new ≡ 0
left_count-none [] new h = refl
left_count-none (x ∷ xs) new h = rw h.0 (omega (arith, left_count-none xs new h.1))

pub seated_more : (new xs : List Seat) (y : Seat) → AreSeatedIn new xs → AreSeatedIn (y ∷ new) xs
seated_more new [] y h = tt
seated_more new (x ∷ xs) y h = (or_right (y.overlay == x.overlay) (is_seated x.overlay new) h.0, seated_more new xs y h.1)

pub seated_behind : (front new xs : List Seat) → AreSeatedIn new xs → AreSeatedIn (front ++ new) xs
seated_behind [] new xs h = h
seated_behind (y ∷ front) new xs h = seated_more (front ++ new) xs y (seated_behind front new xs h)

pub seated_self : (xs ys : List Seat) → AreSeatedIn (xs ++ ys) xs
seated_self [] ys = tt
seated_self (x ∷ xs) ys =
    (or_left (x.overlay == x.overlay) (is_seated x.overlay (xs ++ ys)) (eq-eqb x.overlay x.overlay refl), seated_more (xs ++ ys) xs x (seated_self xs ys))

left_count-skip : (xs new : List Seat) (y : Seat) → IsOutOf y.overlay xs → left_count xs (y ∷ new) ≡ left_count xs new
left_count-skip [] new y out = refl
left_count-skip (x ∷ xs) new y out =
    rw (ne_eqb y.overlay x.overlay out.0) (omega (arith, left_count-skip xs new y out.1))

out_front : (overlay : ℕ) (xs ys : List Seat) → IsOutOf overlay (xs ++ ys) → IsOutOf overlay xs
out_front overlay [] ys h = tt
out_front overlay (x ∷ xs) ys h = (h.0, out_front overlay xs ys h.1)

-- of the dropped seats those leave that are not reprieved
pub left_count-reprieved : (live : List Bool) (most taken room : ℕ) (sizes : List ℕ) (xs ys : List Seat) → IsRoster sizes (xs ++ ys) → left_count xs (reprieved live most taken room xs ++ ys) + length (reprieved live most taken room xs) ≡ length xs
left_count-reprieved live most taken room sizes [] ys h = refl
left_count-reprieved live most taken room sizes (x ∷ xs) ys h =
    let chosen = reprieved live most taken room xs in
    let more = left_count-reprieved live most taken room sizes xs ys h.3 in
    cond_both (is_reprieved live most taken room (paragraphs chosen) x) (x ∷ chosen) chosen
    (λ zs. left_count (x ∷ xs) (zs ++ ys) + length zs ≡ suc (length xs))
    (λ _. rw (eq-eqb x.overlay x.overlay refl, left_count-skip xs (chosen ++ ys) x (out_front x.overlay xs ys h.2)) (omega arith))
    (λ _. rw (is_seated_from_out x.overlay (chosen ++ ys) (out_chosen live most taken room x.overlay xs ys h.2)) (omega arith))

pub left_count-packed : (xs ys : List Seat) (from : ℕ) → left_count xs (packed from ys) ≡ left_count xs ys
left_count-packed [] ys from = refl
left_count-packed (x ∷ xs) ys from = rw (is_seated-packed x.overlay from ys, left_count-packed xs ys from) refl

overlays_of : List Seat → List ℕ
overlays_of xs = map (λ s. s.overlay) xs

overlays_differ : (overlay : ℕ) (xs : List Seat) → IsOutOf overlay xs → AllByRecursion (λ o. eqb overlay o ≡ false) (overlays_of xs)
unfolding overlays_of
overlays_differ overlay [] h = tt
overlays_differ overlay (x ∷ xs) h = (ne_eqb overlay x.overlay h.0, overlays_differ overlay xs h.1)

overlays_distinct : (sizes : List ℕ) (xs : List Seat) → IsRoster sizes xs → IsDistinct eqb (overlays_of xs)
unfolding overlays_of IsDistinct
overlays_distinct sizes [] h = tt
overlays_distinct sizes (x ∷ xs) h = (overlays_differ x.overlay xs h.2, overlays_distinct sizes xs h.3)

overlays_known : (sizes : List ℕ) (xs : List Seat) → IsRoster sizes xs → (q : ℕ) → list_any (eqb q) (overlays_of xs) ≡ true → q < length sizes
unfolding overlays_of
overlays_known sizes [] h q e = absurd cc
overlays_known sizes (x ∷ xs) h q e =
    elim (or_cases (eqb q x.overlay) (list_any (eqb q) (overlays_of xs)) e)
    [ inl here ↦ omega (arith, eqb-true q x.overlay here, h.0) | inr later ↦ overlays_known sizes xs h.3 q later ]

length-le_from_roster : (sizes : List ℕ) (xs : List Seat) → IsRoster sizes xs → length xs ≤ length sizes
unfolding overlays_of
length-le_from_roster sizes xs h =
    omega (arith, length-le_from_distinct_below (overlays_of xs) (length sizes) (overlays_distinct sizes xs h) (overlays_known sizes xs h), length-map xs (λ s. s.overlay))

-- an overlay that has no seat finds one
pub length-lt_from_absent : (sizes : List ℕ) (room wanted : ℕ) (seats : List Seat) → IsSeating sizes room seats → wanted < length sizes → is_seated wanted seats ≡ false → length seats < length sizes
length-lt_from_absent sizes room wanted seats seating known absent =
    let new : Seat = record { overlay = wanted; at = 0; size = slice_index sizes wanted } in
    omega (arith, length-le_from_roster sizes (seats ++ new ∷ []) (roster_push sizes seats new (roster_from_seating sizes room seats seating) known refl absent), length-append seats (new ∷ []))
