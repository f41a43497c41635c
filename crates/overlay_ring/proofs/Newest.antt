-- After a load the newest seat is the wanted overlay's, and no other is.
use Rattle.std.proofs.Common.{◌≡◌, ℕ, zero, suc, ◌+◌, ◌-◌, List, [], ◌∷◌, ◌++◌, length, length-append, take, drop, get_or, Bool, true, false, ◌==◌, Some, is_some, refl, sym, inl, inr, ap, ◌∙◌, arith}
use Rattle.std.proofs.lemmas.Bool.{cases_Bool, or_parts, or_right, eq-eqb, cond_both}
use Rattle.std.proofs.lemmas.List.{append_assoc, get_or_push}
use Rattle.overlay_ring.specs.declared.seat.Seat.{Seat}
use Rattle.overlay_ring.specs.Seats.{is_seated, place_of, paragraphs}
use Rattle.overlay_ring.specs.Ring.{Load, new_seat, after_load, reprieved, reprieved_for, packed, with_reprieved}
use Rattle.overlay_ring.proofs.Sizes.{packed-append}
use Rattle.overlay_ring.proofs.Reprieve.{is_reprieved}
use Rattle.overlay_ring.proofs.Sound.{is_seated-drop}
use Rattle.overlay_ring.proofs.Packing.{is_seated-packed}

pub record EndsWith (wanted : ℕ) (last : Seat) (xs : List Seat) : Type 0 where
  pub front : List Seat
  pub split : xs ≡ front ++ last ∷ []
  pub wanted_last : last.overlay ≡ wanted
  pub absent : is_seated wanted front ≡ false

place_of-push : (wanted : ℕ) (front : List Seat) (last : Seat) → last.overlay ≡ wanted → is_seated wanted front ≡ false → place_of wanted (front ++ last ∷ []) ≡ Some last.at
place_of-push wanted [] last e absent = rw (eq-eqb last.overlay wanted e) refl
place_of-push wanted (x ∷ front) last e absent =
    let absents = or_parts (x.overlay == wanted) (is_seated wanted front) absent in
    rw absents.0 (place_of-push wanted front last e absents.1)

is_seated-push : (wanted : ℕ) (front : List Seat) (last : Seat) → last.overlay ≡ wanted → is_seated wanted (front ++ last ∷ []) ≡ true
is_seated-push wanted [] last e = rw (eq-eqb last.overlay wanted e) refl
is_seated-push wanted (x ∷ front) last e = or_right (x.overlay == wanted) (is_seated wanted (front ++ last ∷ [])) (is_seated-push wanted front last e)

pub place_of-last : (wanted : ℕ) (last : Seat) (xs : List Seat) → EndsWith wanted last xs → place_of wanted xs ≡ Some last.at
place_of-last wanted last xs h = rw h.split (place_of-push wanted h.front last h.wanted_last h.absent)

pub is_seated-last : (wanted : ℕ) (last : Seat) (xs : List Seat) → EndsWith wanted last xs → is_seated wanted xs ≡ true
is_seated-last wanted last xs h = rw h.split (is_seated-push wanted h.front last h.wanted_last)

pub last_seat : (wanted : ℕ) (last : Seat) (xs : List Seat) (d : Seat) → EndsWith wanted last xs → get_or xs (length xs - 1) d ≡ last
last_seat wanted last xs d h =
    let here : length h.front ≡ length (h.front ++ last ∷ []) - 1 = omega (arith, length-append h.front (last ∷ [])) in
    rw h.split (get_or_push h.front last d (length (h.front ++ last ∷ []) - 1) here)

pub after_load-last : (load : Load) (wanted : ℕ) (seats : List Seat) → is_seated wanted seats ≡ false → EndsWith wanted (new_seat load wanted) (after_load load wanted seats)
after_load-last load wanted seats absent = record {
  front = drop load.dropped seats;
  split = refl;
  wanted_last = refl;
  absent = is_seated-drop wanted load.dropped seats absent;
}

is_seated-append : (wanted : ℕ) (xs ys : List Seat) → is_seated wanted xs ≡ false → is_seated wanted ys ≡ false → is_seated wanted (xs ++ ys) ≡ false
is_seated-append wanted [] ys absent absent_too = absent_too
is_seated-append wanted (x ∷ xs) ys absent absent_too =
    let absents = or_parts (x.overlay == wanted) (is_seated wanted xs) absent in
    rw absents.0 (is_seated-append wanted xs ys absents.1 absent_too)

is_seated-take : (wanted n : ℕ) (xs : List Seat) → is_seated wanted xs ≡ false → is_seated wanted (take n xs) ≡ false
is_seated-take wanted zero xs absent = refl
is_seated-take wanted (suc n) [] absent = refl
is_seated-take wanted (suc n) (x ∷ xs) absent =
    let absents = or_parts (x.overlay == wanted) (is_seated wanted xs) absent in
    rw absents.0 (is_seated-take wanted n xs absents.1)

is_seated-reprieved : (live : List Bool) (most taken room wanted : ℕ) (xs : List Seat) → is_seated wanted xs ≡ false → is_seated wanted (reprieved live most taken room xs) ≡ false
is_seated-reprieved live most taken room wanted [] absent = refl
is_seated-reprieved live most taken room wanted (x ∷ xs) absent =
    let absents = or_parts (x.overlay == wanted) (is_seated wanted xs) absent in
    let chosen = reprieved live most taken room xs in
    let more = is_seated-reprieved live most taken room wanted xs absents.1 in
    cond_both (is_reprieved live most taken room (paragraphs chosen) x) (x ∷ chosen) chosen (λ zs. is_seated wanted zs ≡ false)
    (λ _. rw absents.0 more) (λ _. more)

with_reprieved-last : (wanted : ℕ) (xs front : List Seat) (last : Seat) → last.overlay ≡ wanted → is_seated wanted xs ≡ false → is_seated wanted front ≡ false → (moved : Seat) × EndsWith wanted moved (with_reprieved xs (front ++ last ∷ []))
with_reprieved-last wanted [] front last e absent absent_too =
    (last, record { front = front; split = refl; wanted_last = e; absent = absent_too })
with_reprieved-last wanted (x ∷ xs) front last e absent absent_too =
    let others = x ∷ xs ++ front in (
      record last { at = 0 + paragraphs others },
      record {
        front = packed 0 others;
        split = ap (packed 0) (sym (append_assoc (x ∷ xs) front (last ∷ []))) ∙ packed-append 0 others (last ∷ []);
        wanted_last = e;
        absent = is_seated-packed wanted 0 others ∙ is_seated-append wanted (x ∷ xs) front absent absent_too;
      },
    )

pub retry-last : (live : List Bool) (most room : ℕ) (load : Load) (wanted : ℕ) (seats : List Seat) → is_seated wanted seats ≡ false → (moved : Seat) × EndsWith wanted moved (with_reprieved (reprieved_for live most load room wanted seats) (after_load load wanted seats))
retry-last live most room load wanted seats absent =
    with_reprieved-last wanted (reprieved_for live most load room wanted seats) (drop load.dropped seats) (new_seat load wanted) refl
    (is_seated-reprieved live most (paragraphs (after_load load wanted seats)) room wanted (take load.dropped seats) (is_seated-take wanted load.dropped seats absent))
    (is_seated-drop wanted load.dropped seats absent)

-- an overlay has a place where it has a seat
pub is_some-place_of : (wanted : ℕ) (xs : List Seat) → is_some (place_of wanted xs) ≡ is_seated wanted xs
is_some-place_of wanted [] = refl
is_some-place_of wanted (x ∷ xs) =
    elim (cases_Bool (x.overlay == wanted)) [ inl e ↦ rw e refl | inr e ↦ rw e (is_some-place_of wanted xs) ]
