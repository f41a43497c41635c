-- One step of the choice of reprieved seats, from the newest of the dropped to the oldest.
use Rattle.std.proofs.Common.{◌≡◌, ℕ, ◌+◌, ◌-◌, ◌<◌, ◌≤◌, List, [], ◌∷◌, ◌++◌, length, take, drop, get_or, Bool, true, false, ◌&&◌, nat_le, refl, ap, ◌∙◌, arith}
use Rattle.std.specs.List.{remove}
use Rattle.std.proofs.lemmas.Bool.{cond-true, cond-false}
use Rattle.std.proofs.lemmas.List.{take_more, drop_more, length-take-le, get_or-take, get_or_at, append_assoc}
use Rattle.std.proofs.lemmas.List.Edits.{remove-append_right}
use Rattle.overlay_ring.specs.declared.seat.Seat.{Seat}
use Rattle.overlay_ring.specs.Seats.{paragraphs}
use Rattle.overlay_ring.specs.Ring.{is_live, reprieved}

-- whether the next older seat is reprieved, after `saved` paragraphs of newer ones
abbrev pub is_reprieved : List Bool → ℕ → ℕ → ℕ → ℕ → Seat → Bool
is_reprieved live most taken room saved s =
    is_live live s.overlay && (nat_le (saved + s.size) most && nat_le (saved + s.size + taken) room)

pub reprieved-true : (live : List Bool) (most taken room : ℕ) (s : Seat) (newer : List Seat) → is_reprieved live most taken room (paragraphs (reprieved live most taken room newer)) s ≡ true → reprieved live most taken room (s ∷ newer) ≡ s ∷ reprieved live most taken room newer
reprieved-true live most taken room s newer e = cond-true _ _ _ e

pub reprieved-false : (live : List Bool) (most taken room : ℕ) (s : Seat) (newer : List Seat) → is_reprieved live most taken room (paragraphs (reprieved live most taken room newer)) s ≡ false → reprieved live most taken room (s ∷ newer) ≡ reprieved live most taken room newer
reprieved-false live most taken room s newer e = cond-false _ _ _ e

-- the seats up to `i` were not looked at yet, and those from there up to `count` were chosen among
pub record IsChosen (live : List Bool) (most taken room count : ℕ) (old : List Seat) (i : ℕ) (new : List Seat) (saved : ℕ) : Type 0 where
  pub seats : new ≡ take i old ++ (reprieved live most taken room (drop i (take count old)) ++ drop count old)
  pub sizes : saved ≡ paragraphs (reprieved live most taken room (drop i (take count old)))

next_seat : (count : ℕ) (old ys new : List Seat) (j : ℕ) (s : Seat) → j < count → count ≤ length old → new ≡ take (j + 1) old ++ ys → s ≡ get_or new j s → s ≡ get_or old j s
next_seat count old ys new j s below within e here =
    let inside : j < length old = omega arith in
    let short : j ≤ length old = omega arith in
    here ∙ rw (e, take_more old j s inside, append_assoc (take j old) (get_or old j s ∷ []) ys, get_or_at (take j old) (get_or old j s) ys s j (length-take-le j old short)) refl

next_drop : (count : ℕ) (old : List Seat) (j : ℕ) (s : Seat) → j < count → count ≤ length old → s ≡ get_or old j s → drop j (take count old) ≡ s ∷ drop (j + 1) (take count old)
next_drop count old j s below within here =
    let inside : j < length (take count old) = omega (arith, length-take-le count old within) in
    rw (drop_more (take count old) j s inside, get_or-take count old j s below, ← here) refl

pub chosen_stays : (live : List Bool) (most taken room count : ℕ) (old new : List Seat) (i j saved : ℕ) (s : Seat) → IsChosen live most taken room count old i new saved → i ≡ j + 1 → j < count → count ≤ length old → s ≡ get_or new j s → is_reprieved live most taken room saved s ≡ true → IsChosen live most taken room count old j new (saved + s.size)
chosen_stays live most taken room count old new i j saved s chosen next below within here test =
    let h = rw next at chosen in
    let seat = next_seat count old _ new j s below within h.seats here in
    let inside : j < length old = omega arith in
    let e = next_drop count old j s below within seat in
    let newer = drop (j + 1) (take count old) in
    let more = reprieved-true live most taken room s newer (rw h.sizes at test) in
    record {
      seats = rw (e, more) (h.seats ∙ rw (take_more old j s inside, ← seat) (append_assoc (take j old) (s ∷ []) _));
      sizes = rw (e, more) (omega (arith, h.sizes));
    }

remove_at : (p : List Seat) (s : Seat) (q : List Seat) (j : ℕ) → length p ≡ j → remove (p ++ s ∷ q) j ≡ p ++ q
remove_at p s q j e =
    let zero_th : j - j ≡ 0 = omega arith in
    let same : j ≤ j = omega arith in
    remove-append_right p (s ∷ q) j j e same ∙ ap (λ n. p ++ remove (s ∷ q) n) zero_th

pub chosen_goes : (live : List Bool) (most taken room count : ℕ) (old new after : List Seat) (i j saved : ℕ) (s : Seat) → IsChosen live most taken room count old i new saved → i ≡ j + 1 → j < count → count ≤ length old → s ≡ get_or new j s → is_reprieved live most taken room saved s ≡ false → after ≡ remove new j → IsChosen live most taken room count old j after saved
chosen_goes live most taken room count old new after i j saved s chosen next below within here test gone =
    let h = rw next at chosen in
    let seat = next_seat count old _ new j s below within h.seats here in
    let inside : j < length old = omega arith in
    let short : j ≤ length old = omega arith in
    let e = next_drop count old j s below within seat in
    let newer = drop (j + 1) (take count old) in
    let same = reprieved-false live most taken room s newer (rw h.sizes at test) in
    let split = h.seats ∙ rw (take_more old j s inside, ← seat) (append_assoc (take j old) (s ∷ []) _) in
    record {
      seats = rw (e, same) (gone ∙ ap (λ xs. remove xs j) split ∙ remove_at (take j old) s _ j (length-take-le j old short));
      sizes = rw (e, same) h.sizes;
    }
