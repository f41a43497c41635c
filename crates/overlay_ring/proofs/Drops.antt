-- How many seats are dropped.
use Rattle.std.proofs.Common.{◌≡◌, ℕ, zero, suc, ◌+◌, ◌<◌, ◌≤◌, List, [], ◌∷◌, ◌++◌, length, take, drop, get_or, Bool, true, false, cond, ◌||◌, refl, arith}
use Rattle.std.specs.List.{list_any}
use Rattle.std.proofs.lemmas.List.{take_more, length-take-le}
use Rattle.std.proofs.lemmas.List.Recursion.{or_push}
use Rattle.overlay_ring.specs.declared.seat.Seat.{Seat}
use Rattle.overlay_ring.specs.Seats.{overlaps}
use Rattle.overlay_ring.specs.Ring.{drop_count}

push_cases : (a q b : Bool) (n m : ℕ) → cond (a || (q || b)) (suc (cond b (n + 1) m)) 0 ≡ cond b (suc n + 1) (cond (a || q) (suc m) 0)
push_cases true q true n m = omega arith
push_cases true q false n m = refl
push_cases false true true n m = omega arith
push_cases false true false n m = refl
push_cases false false true n m = omega arith
push_cases false false false n m = refl

last_cases : (b : Bool) → cond (b || false) (suc 0) 0 ≡ cond b (0 + 1) 0
last_cases true = refl
last_cases false = refl

-- one more seat is to go with all before it if it overlaps, and else changes nothing
pub drop_count-push : (at size : ℕ) (xs : List Seat) (s : Seat) → drop_count at size (xs ++ s ∷ []) ≡ cond (overlaps at size s) (length xs + 1) (drop_count at size xs)
drop_count-push at size [] s = last_cases (overlaps at size s)
drop_count-push at size (x ∷ xs) s =
    rw (or_push (list_any (overlaps at size)) (overlaps at size) refl (λ _ _. refl) xs s, drop_count-push at size xs s)
    (push_cases (overlaps at size x) (list_any (overlaps at size) xs) (overlaps at size s) (length xs) (drop_count at size xs))

pub drop_count-more : (at size : ℕ) (xs : List Seat) (i : ℕ) (d : Seat) (b : Bool) → i < length xs → b ≡ overlaps at size (get_or xs i d) → drop_count at size (take (i + 1) xs) ≡ cond b (i + 1) (drop_count at size (take i xs))
drop_count-more at size xs i d b l e =
    let short : i ≤ length xs = omega arith in
    rw (take_more xs i d l, drop_count-push at size (take i xs) (get_or xs i d), length-take-le i xs short, ← e) refl

count_le : (b : Bool) (n m : ℕ) → n ≤ m → cond b (suc n) 0 ≤ suc m
count_le true n m h = omega arith
count_le false n m h = omega arith

pub drop_count-le : (at size : ℕ) (xs : List Seat) → drop_count at size xs ≤ length xs
drop_count-le at size [] = omega arith
drop_count-le at size (x ∷ xs) =
    count_le (list_any (overlaps at size) (x ∷ xs)) (drop_count at size xs) (length xs) (drop_count-le at size xs)

clear_at : (p : Seat → Bool) (x : Seat) (xs : List Seat) (n : ℕ) (b : Bool) → list_any p (x ∷ xs) ≡ b → list_any p (drop n xs) ≡ false → list_any p (drop (cond b (suc n) 0) (x ∷ xs)) ≡ false
clear_at p x xs n true e h = h
clear_at p x xs n false e h = e

-- nothing that is left overlaps
pub drop_count-clears : (at size : ℕ) (xs : List Seat) → list_any (overlaps at size) (drop (drop_count at size xs) xs) ≡ false
drop_count-clears at size [] = refl
drop_count-clears at size (x ∷ xs) =
    clear_at (overlaps at size) x xs (drop_count at size xs) (list_any (overlaps at size) (x ∷ xs)) refl (drop_count-clears at size xs)

shorter_at : (p : Seat → Bool) (x : Seat) (xs : List Seat) (m : ℕ) (b : Bool) → list_any p (x ∷ xs) ≡ b → ((n : ℕ) → n < m → list_any p (drop n xs) ≡ true) → (n : ℕ) → n < cond b (suc m) 0 → list_any p (drop n (x ∷ xs)) ≡ true
shorter_at p x xs m true e h zero l = e
shorter_at p x xs m true e h (suc n) l = h n (omega arith)
shorter_at p x xs m false e h n l = absurd (omega arith)

-- with any fewer dropped, something that is left overlaps
pub drop_count-least : (at size : ℕ) (xs : List Seat) (n : ℕ) → n < drop_count at size xs → list_any (overlaps at size) (drop n xs) ≡ true
drop_count-least at size [] n l = absurd (omega arith)
drop_count-least at size (x ∷ xs) n l =
    shorter_at (overlaps at size) x xs (drop_count at size xs) (list_any (overlaps at size) (x ∷ xs)) refl (drop_count-least at size xs) n l
