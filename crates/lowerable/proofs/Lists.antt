-- Lists of which all elements pass a test, one after the other.
use Rattle.std.proofs.Common.{◌≡◌, ℕ, zero, suc, ◌+◌, ◌≤◌, ◌<◌, Bool, true, false, ◌&&◌, List, [], ◌∷◌, refl, drop, length, ap, ◌∙◌, arith}
use Rattle.std.specs.Prelude.{slice_get}
use Rattle.std.specs.List.{list_all}
use Rattle.std.specs.Option.{option_map_or}
use Rattle.std.proofs.lemmas.List.{drop_all}

turned : {X : Type 0} (test : X → Bool) (xs : List X) (i : ℕ) → i < length xs
    → list_all test (drop i xs) ≡ (option_map_or test (slice_get xs i) false && list_all test (drop (suc i) xs))
turned test [] i h = absurd (omega (arith, h))
turned test (x ∷ xs) zero h = refl
turned test (x ∷ xs) (suc i) h = turned test xs i (omega (arith, h))

-- one that passes is left behind, and one that doesn't is the end
pub all_turns : {X : Type 0} (test : X → Bool) (xs : List X) (i : ℕ) (b : Bool) → i < length xs → option_map_or test (slice_get xs i) false ≡ b
    → list_all test (drop i xs) ≡ (b && list_all test (drop (i + 1) xs))
all_turns test xs i b h e =
    let next : suc i ≡ i + 1 = omega arith in
    turned test xs i h
    ∙ ap (λ k. option_map_or test (slice_get xs i) false && list_all test (drop k xs)) next
    ∙ ap (λ c. c && list_all test (drop (i + 1) xs)) e

pub all_end : {X : Type 0} (test : X → Bool) (xs : List X) (i : ℕ) → length xs ≤ i → list_all test (drop i xs) ≡ true
all_end test xs i h = ap (list_all test) (drop_all i xs h)
