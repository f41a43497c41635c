-- A list by its first part.
use Rattle.std.proofs.Common.{◌≡◌, ℕ, ◌-◌, ◌<◌, ◌≤◌, List, [], ◌∷◌, length, take, drop, get_or, refl, sym, ap, ◌∙◌, arith}
use Rattle.std.proofs.lemmas.List.{take_all}

pub nil_of : {X : Type 0} (xs : List X) → length xs < 1 → xs ≡ []
nil_of [] h = refl
nil_of (x ∷ xs) h = absurd (omega (arith, h))

pub cons_of : {X : Type 0} (xs : List X) (x : X) → 1 ≤ length xs → x ≡ get_or xs 0 x → xs ≡ x ∷ take (length xs - 1) (drop 1 xs)
cons_of [] x h e = absurd (omega (arith, h))
cons_of {X} (y ∷ xs) x h e =
    let all : take (length (y ∷ xs) - 1) xs ≡ xs = take_all (length (y ∷ xs) - 1) xs (omega arith) in
    ap (λ (z : X). z ∷ xs) (sym e) ∙ ap (λ (l : List X). x ∷ l) (sym all)
