-- The first element of a list that passes a test.
use Rattle.std.proofs.Common.{◌≡◌, ℕ, zero, suc, ◌+◌, ◌≤◌, Bool, List, [], ◌∷◌, Option, Some, None, drop, length, sym, ap, ◌∙◌, arith}
use Rattle.std.specs.Prelude.{slice_get, position, cond}
use Rattle.std.specs.List.{position_from}
use Rattle.std.proofs.lemmas.Iterator.Adapters.{position_from-zero}
use Rattle.std.proofs.lemmas.List.{drop_all}

-- what is left of a search behind the first elements
abbrev pub searched : {X : Type 0} → (X → Bool) → List X → ℕ → Option ℕ
searched test xs i = position_from test i (drop i xs)

pub search_begins : {X : Type 0} (test : X → Bool) (xs : List X) → position test xs ≡ searched test xs 0
search_begins test xs = position_from-zero test xs

turned : {X : Type 0} (test : X → Bool) (xs : List X) (i j : ℕ) (x : X) → slice_get xs i ≡ Some x
    → position_from test j (drop i xs) ≡ cond (test x) (Some j) (position_from test (j + 1) (drop (suc i) xs))
turned test [] i j x e = absurd cc
turned {X} test (y ∷ xs) zero j x e =
    let same : y ≡ x = cc in
    ap (λ (z : X). cond (test z) (Some j) (position_from test (j + 1) xs)) same
turned test (y ∷ xs) (suc i) j x e = turned test xs i j x e

-- an element that passes is found, and one that doesn't is left behind
pub search_turns : {X : Type 0} (test : X → Bool) (xs : List X) (i : ℕ) (x : X) (b : Bool) → slice_get xs i ≡ Some x → b ≡ test x
    → searched test xs i ≡ cond b (Some i) (searched test xs (i + 1))
search_turns test xs i x b e f =
    let next : suc i ≡ i + 1 = omega arith in
    turned test xs i i x e ∙ ap (λ k. cond (test x) (Some i) (position_from test (i + 1) (drop k xs))) next ∙ ap (λ c. cond c (Some i) (searched test xs (i + 1))) (sym f)

pub search_ends : {X : Type 0} (test : X → Bool) (xs : List X) (i : ℕ) → length xs ≤ i → searched test xs i ≡ None
search_ends test xs i h = ap (position_from test i) (drop_all i xs h)
