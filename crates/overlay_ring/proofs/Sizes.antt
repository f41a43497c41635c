-- The seats' sizes together, and seats that are packed.
use Rattle.std.proofs.Common.{◌≡◌, ℕ, zero, suc, ◌+◌, ◌<◌, ◌≤◌, List, [], ◌∷◌, ◌++◌, length, length-append, length-drop, take, drop, get_or, set, refl, sym, ap, ◌∙◌, arith}
use Rattle.std.proofs.lemmas.List.{take_more, drop_more, length-take-le, set_at, get_or_at, append_assoc}
use Rattle.overlay_ring.specs.declared.seat.Seat.{Seat}
use Rattle.overlay_ring.specs.Seats.{paragraphs}
use Rattle.overlay_ring.specs.Ring.{packed}

pub paragraphs-append : (xs ys : List Seat) → paragraphs (xs ++ ys) ≡ paragraphs xs + paragraphs ys
paragraphs-append [] ys = omega arith
paragraphs-append (x ∷ xs) ys = omega (arith, paragraphs-append xs ys)

pub paragraphs-more : (xs : List Seat) (i : ℕ) (d : Seat) → i < length xs → paragraphs (take (i + 1) xs) ≡ paragraphs (take i xs) + (get_or xs i d).size
paragraphs-more xs i d l =
    rw (take_more xs i d l, paragraphs-append (take i xs) (get_or xs i d ∷ [])) (omega arith)

-- the packed front, then the seats that were not moved yet
abbrev pub packed_to : ℕ → ℕ → List Seat → List Seat
packed_to from i xs = packed from (take i xs) ++ drop i xs

pub packed-append : (from : ℕ) (xs ys : List Seat) → packed from (xs ++ ys) ≡ packed from xs ++ packed (from + paragraphs xs) ys
packed-append from [] ys = ap (λ n. packed n ys) (omega arith)
packed-append from (x ∷ xs) ys =
    ap (λ (t : List Seat). record x { at = from } ∷ t) (packed-append (from + x.size) xs ys ∙ ap (λ n. packed (from + x.size) xs ++ packed n ys) (omega arith))

pub length-packed : (from : ℕ) (xs : List Seat) → length (packed from xs) ≡ length xs
length-packed from [] = refl
length-packed from (x ∷ xs) = ap suc (length-packed (from + x.size) xs)

-- a seat that was not moved yet
pub get_or-packed_to : (from i : ℕ) (xs : List Seat) (d : Seat) → i < length xs → get_or (packed_to from i xs) i d ≡ get_or xs i d
get_or-packed_to from i xs d l =
    let short : i ≤ length xs = omega arith in
    let here : length (packed from (take i xs)) ≡ i = length-packed from (take i xs) ∙ length-take-le i xs short in
    rw (drop_more xs i d l) (get_or_at (packed from (take i xs)) (get_or xs i d) (drop (i + 1) xs) d i here)

-- one more seat is moved
pub packed_to-more : (i : ℕ) (xs ys : List Seat) (d : Seat) (next : ℕ) → i < length xs → ys ≡ packed_to 0 i xs → next ≡ paragraphs (take i xs) → set ys i (record { overlay = (get_or ys i d).overlay; at = next; size = (get_or ys i d).size }) ≡ packed_to 0 (i + 1) xs
packed_to-more i xs ys d next l moved e =
    let short : i ≤ length xs = omega arith in
    let here : length (packed 0 (take i xs)) ≡ i = length-packed 0 (take i xs) ∙ length-take-le i xs short in
    let at : 0 + paragraphs (take i xs) ≡ next = omega arith in
    rw (
      moved,
      get_or-packed_to 0 i xs d l,
      drop_more xs i d l,
      take_more xs i d l,
      packed-append 0 (take i xs) (get_or xs i d ∷ []),
      at,
      set_at (packed 0 (take i xs)) (get_or xs i d) (drop (i + 1) xs) (record (get_or xs i d) { at = next }) i here,
    )
    (sym (append_assoc (packed 0 (take i xs)) (record (get_or xs i d) { at = next } ∷ []) (drop (i + 1) xs)))

-- a front has at most the sizes of all
pub paragraphs-take : (i : ℕ) (xs : List Seat) → paragraphs (take i xs) ≤ paragraphs xs
paragraphs-take zero xs = omega arith
paragraphs-take (suc i) [] = omega arith
paragraphs-take (suc i) (x ∷ xs) = omega (arith, paragraphs-take i xs)

-- what went and what was kept of the first `count` seats are all of them
pub went_with : (xs new chosen : List Seat) (count went : ℕ) → new ≡ chosen ++ drop count xs → went + length new ≡ length xs → count ≤ length xs → went + length chosen ≡ count
went_with xs new chosen count went e all short =
    omega (arith, all, short, ap length e, length-append chosen (drop count xs), length-drop count xs)
