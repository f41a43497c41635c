-- Laws of the ring: how many leave, that what stays does not move, and what a reprieve keeps to.
use Rattle.std.proofs.Common.{◌≡◌, ◌≢◌, ℕ, zero, suc, ◌+◌, ◌<◌, ◌≤◌, List, [], ◌∷◌, ◌++◌, length, take, drop, Bool, true, false, ◌&&◌, nat_le, IsTrue, ◌⊎◌, refl, sym, inl, inr, ap, ◌∙◌, arith}
use Rattle.std.specs.List.{All, AllByRecursion, Contains}
use Rattle.std.proofs.lemmas.Bool.{and_parts, and_right, and_left, lt-leb, cond-true, cond-false, cond_both}
use Rattle.std.proofs.lemmas.List.{append-nil, take-append-drop, length-take-le}
use Rattle.std.proofs.lemmas.List.Elements.{All-from_recursion, All-contains_itself, All-drop, All-push, All-weaker}
use Rattle.overlay_ring.specs.declared.seat.Seat.{Seat}
use Rattle.overlay_ring.specs.Seats.{is_seated, paragraphs, left_count, IsSeating, AreOverlays}
use Rattle.overlay_ring.specs.Ring.{load_of, new_seat, after_load, ring_after, is_live, reprieved, reprieved_for, packed, with_reprieved, retry_after}
use Rattle.overlay_ring.proofs.Drops.{drop_count-le}
use Rattle.overlay_ring.proofs.Sizes.{paragraphs-append}
use Rattle.overlay_ring.proofs.Reprieve.{is_reprieved, reprieved-false}
use Rattle.overlay_ring.proofs.Packing.{IsRoster, roster_from_seating, AreWithin, reprieved-within, roster_of_all}
use Rattle.overlay_ring.proofs.Counts.{seated_self, seated_behind, left_count-append, left_count-none, left_count-reprieved, left_count-packed}

left_count-with_reprieved : (xs chosen list : List Seat) → left_count xs (with_reprieved chosen list) ≡ left_count xs (chosen ++ list)
left_count-with_reprieved xs [] list = refl
left_count-with_reprieved xs (x ∷ chosen) list = left_count-packed xs (x ∷ chosen ++ list) 0

-- the overlays that leave are the dropped ones but for the reprieved
pub left_count-retry : (sizes : List ℕ) (room : ℕ) (live : List Bool) (most wanted : ℕ) (seats : List Seat) → wanted < length sizes → IsSeating sizes room seats → is_seated wanted seats ≡ false → left_count seats (with_reprieved (reprieved_for live most (load_of sizes room wanted seats) room wanted seats) (after_load (load_of sizes room wanted seats) wanted seats)) + length (reprieved_for live most (load_of sizes room wanted seats) room wanted seats) ≡ (load_of sizes room wanted seats).dropped
left_count-retry sizes room live most wanted seats known seating absent =
    let load = load_of sizes room wanted seats in
    let list = after_load load wanted seats in
    let gone = take load.dropped seats in
    let kept = drop load.dropped seats in
    let chosen = reprieved_for live most load room wanted seats in
    let all : gone ++ kept ≡ seats = take-append-drop load.dropped seats in
    let short : load.dropped ≤ length seats = drop_count-le load.at load.size seats in
    let of_gone : left_count gone (chosen ++ list) + length chosen ≡ length gone =
    left_count-reprieved live most (paragraphs list) room sizes gone list (roster_of_all sizes room wanted seats known seating absent) in
    let of_kept : left_count kept (chosen ++ list) ≡ 0 =
    left_count-none kept (chosen ++ list) (seated_behind chosen list kept (seated_self kept (new_seat load wanted ∷ []))) in
    let of_all : left_count seats (chosen ++ list) ≡ left_count gone (chosen ++ list) + left_count kept (chosen ++ list) =
    ap (λ xs. left_count xs (chosen ++ list)) (sym all) ∙ left_count-append gone kept (chosen ++ list) in
    omega (arith, left_count-with_reprieved seats chosen list, of_all, of_gone, of_kept, length-take-le load.dropped seats short)

all_filled : (sizes : List ℕ) (room : ℕ) (xs : List Seat) → AreOverlays room sizes → IsRoster sizes xs → AllByRecursion (λ s. 0 < s.size) xs
all_filled sizes room [] overlays h = tt
all_filled sizes room (x ∷ xs) overlays h =
    let fits = overlays.fit x.overlay 0 h.0 in
    (omega (arith, h.1, fits.0), all_filled sizes room xs overlays h.3)

all_take : (P : Seat → Type 0) (n : ℕ) (xs : List Seat) → AllByRecursion P xs → AllByRecursion P (take n xs)
all_take P zero xs h = tt
all_take P (suc n) [] h = tt
all_take P (suc n) (x ∷ xs) h = (h.0, all_take P n xs h.1)

reprieved-zero : (live : List Bool) (taken room : ℕ) (xs : List Seat) → AllByRecursion (λ s. 0 < s.size) xs → reprieved live 0 taken room xs ≡ []
reprieved-zero live taken room [] h = refl
reprieved-zero live taken room (x ∷ xs) h =
    let needed = paragraphs (reprieved live 0 taken room xs) + x.size in
    let filled : 0 < needed = omega (arith, h.0) in
    reprieved-false live 0 taken room x xs (and_right (is_live live x.overlay) (nat_le needed 0 && nat_le (needed + taken) room) (and_left (nat_le needed 0) (nat_le (needed + taken) room) (lt-leb needed 0 filled)))
    ∙ reprieved-zero live taken room xs h.1

pub reprieved_for-zero : (sizes : List ℕ) (room : ℕ) (live : List Bool) (wanted : ℕ) (seats : List Seat) → AreOverlays room sizes → IsSeating sizes room seats → reprieved_for live 0 (load_of sizes room wanted seats) room wanted seats ≡ []
reprieved_for-zero sizes room live wanted seats overlays seating =
    let load = load_of sizes room wanted seats in
    reprieved-zero live (paragraphs (after_load load wanted seats)) room (take load.dropped seats)
    (all_take (λ s. 0 < s.size) load.dropped seats (all_filled sizes room seats overlays (roster_from_seating sizes room seats seating)))

-- with no paragraph to spend a reprieve changes nothing
pub retry_after-zero : (sizes : List ℕ) (room : ℕ) (live : List Bool) (wanted : ℕ) (seats : List Seat) → AreOverlays room sizes → IsSeating sizes room seats → retry_after sizes room live 0 wanted seats ≡ ring_after sizes room wanted seats
retry_after-zero sizes room live wanted seats overlays seating =
    rw (reprieved_for-zero sizes room live wanted seats overlays seating) refl

-- without reprieve the dropped ones leave
pub left_count-load : (sizes : List ℕ) (room wanted : ℕ) (seats : List Seat) → wanted < length sizes → IsSeating sizes room seats → AreOverlays room sizes → is_seated wanted seats ≡ false → left_count seats (after_load (load_of sizes room wanted seats) wanted seats) ≡ (load_of sizes room wanted seats).dropped
left_count-load sizes room wanted seats known seating overlays absent =
    let load = load_of sizes room wanted seats in
    let none = reprieved_for-zero sizes room [] wanted seats overlays seating in
    let left = rw none at (left_count-retry sizes room [] 0 wanted seats known seating absent) in
    omega (arith, left)

-- what stays has not moved
pub ring_after-unmoved : (sizes : List ℕ) (room wanted : ℕ) (seats : List Seat) → All (λ s. s.overlay ≢ wanted → Contains seats s) (ring_after sizes room wanted seats)
ring_after-unmoved sizes room wanted seats =
    let Stays : Seat → Type 0 = λ s. s.overlay ≢ wanted → Contains seats s in
    let stay : All Stays seats = All-weaker (Contains seats) Stays (λ s h _. h) seats (All-contains_itself seats) in
    let load = load_of sizes room wanted seats in
    cond_both (is_seated wanted seats) seats (after_load load wanted seats) (All Stays) (λ _. stay)
    (λ _. All-push Stays (drop load.dropped seats) (new_seat load wanted) (All-drop Stays load.dropped seats stay) (λ other. absurd (other refl)))

-- what an overlay has to be to stand in the list after a reprieve: without one it would stand there too, or it is live
abbrev pub IsReprieved : List ℕ → ℕ → List Bool → ℕ → List Seat → Seat → Type 0
IsReprieved sizes room live wanted seats s =
    IsTrue (is_seated s.overlay (ring_after sizes room wanted seats)) ⊎ IsTrue (is_live live s.overlay)

all_weaker : (P Q : Seat → Type 0) (xs : List Seat) → ((s : Seat) → P s → Q s) → AllByRecursion P xs → AllByRecursion Q xs
all_weaker P Q [] w h = tt
all_weaker P Q (x ∷ xs) w h = (w x h.0, all_weaker P Q xs w h.1)

all_append : (P : Seat → Type 0) (xs ys : List Seat) → AllByRecursion P xs → AllByRecursion P ys → AllByRecursion P (xs ++ ys)
all_append P [] ys h k = k
all_append P (x ∷ xs) ys h k = (h.0, all_append P xs ys h.1 k)

all_packed : (P : ℕ → Type 0) (from : ℕ) (xs : List Seat) → AllByRecursion (λ s. P s.overlay) xs → AllByRecursion (λ s. P s.overlay) (packed from xs)
all_packed P from [] h = tt
all_packed P from (x ∷ xs) h = (h.0, all_packed P (from + x.size) xs h.1)

all_with_reprieved : (P : ℕ → Type 0) (chosen list : List Seat) → AllByRecursion (λ s. P s.overlay) (chosen ++ list) → AllByRecursion (λ s. P s.overlay) (with_reprieved chosen list)
all_with_reprieved P [] list h = h
all_with_reprieved P (x ∷ chosen) list h = all_packed P 0 (x ∷ chosen ++ list) h

reprieved_live : (live : List Bool) (most taken room : ℕ) (xs : List Seat) → AllByRecursion (λ s. is_live live s.overlay ≡ true) (reprieved live most taken room xs)
reprieved_live live most taken room [] = tt
reprieved_live live most taken room (x ∷ xs) =
    let chosen = reprieved live most taken room xs in
    let needed = paragraphs chosen + x.size in
    let more = reprieved_live live most taken room xs in
    cond_both (is_reprieved live most taken room (paragraphs chosen) x) (x ∷ chosen) chosen (AllByRecursion (λ s. is_live live s.overlay ≡ true))
    (λ test. ((and_parts (is_live live x.overlay) (nat_le needed most && nat_le (needed + taken) room) test).0, more)) (λ _. more)

pub retry-reprieved : (sizes : List ℕ) (room : ℕ) (live : List Bool) (most wanted : ℕ) (seats : List Seat) → is_seated wanted seats ≡ false → All (IsReprieved sizes room live wanted seats) (with_reprieved (reprieved_for live most (load_of sizes room wanted seats) room wanted seats) (after_load (load_of sizes room wanted seats) wanted seats))
retry-reprieved sizes room live most wanted seats absent =
    let load = load_of sizes room wanted seats in
    let list = after_load load wanted seats in
    let chosen = reprieved_for live most load room wanted seats in
    let plain : ring_after sizes room wanted seats ≡ list = cond-false (is_seated wanted seats) seats list absent in
    let P : ℕ → Type 0 = λ o. IsTrue (is_seated o (ring_after sizes room wanted seats)) ⊎ IsTrue (is_live live o) in
    let self = rw append-nil at (seated_self list []) in
    All-from_recursion (IsReprieved sizes room live wanted seats) (with_reprieved chosen list)
    (all_with_reprieved P chosen list
    (all_append (λ s. P s.overlay) chosen list
    (all_weaker (λ s. is_live live s.overlay ≡ true) (λ s. P s.overlay) chosen (λ s h. inr h) (reprieved_live live most (paragraphs list) room (take load.dropped seats)))
    (all_weaker (λ s. is_seated s.overlay list ≡ true) (λ s. P s.overlay) list (λ s h. inl (rw plain h)) self)))

-- a reprieve changes nothing where the overlay is there
pub retry_after-found : (sizes : List ℕ) (room : ℕ) (live : List Bool) (most wanted : ℕ) (seats : List Seat) → is_seated wanted seats ≡ true → seats ≡ retry_after sizes room live most wanted seats
retry_after-found sizes room live most wanted seats seated = sym (cond-true (is_seated wanted seats) seats _ seated)

pub found-reprieved : (sizes : List ℕ) (room : ℕ) (live : List Bool) (wanted : ℕ) (seats : List Seat) → is_seated wanted seats ≡ true → All (IsReprieved sizes room live wanted seats) seats
found-reprieved sizes room live wanted seats seated =
    let plain : ring_after sizes room wanted seats ≡ seats = cond-true (is_seated wanted seats) seats (after_load (load_of sizes room wanted seats) wanted seats) seated in
    All-from_recursion (IsReprieved sizes room live wanted seats) seats
    (all_weaker (λ s. is_seated s.overlay seats ≡ true) (IsReprieved sizes room live wanted seats) seats (λ s h. inl (rw plain h)) (rw append-nil at (seated_self seats [])))

paragraphs-packed : (from : ℕ) (xs : List Seat) → paragraphs (packed from xs) ≡ paragraphs xs
paragraphs-packed from [] = refl
paragraphs-packed from (x ∷ xs) = ap (λ n. x.size + n) (paragraphs-packed (from + x.size) xs)

within_most : (most taken room : ℕ) (chosen list : List Seat) → (chosen ≡ []) ⊎ AreWithin most taken room chosen → paragraphs (with_reprieved chosen list) ≤ paragraphs list + most
within_most most taken room [] list h = omega arith
within_most most taken room (x ∷ chosen) list (inl e) = absurd cc
within_most most taken room (x ∷ chosen) list (inr h) =
    omega (arith, paragraphs-packed 0 (x ∷ chosen ++ list), paragraphs-append (x ∷ chosen) list, h.below_most)

-- a reprieve keeps at most so many paragraphs
pub retry-within : (sizes : List ℕ) (room : ℕ) (live : List Bool) (most wanted : ℕ) (seats : List Seat) → is_seated wanted seats ≡ false → paragraphs (with_reprieved (reprieved_for live most (load_of sizes room wanted seats) room wanted seats) (after_load (load_of sizes room wanted seats) wanted seats)) ≤ paragraphs (ring_after sizes room wanted seats) + most
retry-within sizes room live most wanted seats absent =
    let load = load_of sizes room wanted seats in
    let list = after_load load wanted seats in
    rw (cond-false (is_seated wanted seats) seats list absent)
    (within_most most (paragraphs list) room (reprieved_for live most load room wanted seats) list
    (reprieved-within live most (paragraphs list) room (take load.dropped seats)))
