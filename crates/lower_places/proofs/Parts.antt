-- Parts that lie one below another keep apart, and what lies behind others is found behind them.
use Rattle.std.proofs.Common.{◌≡◌, ℕ, zero, suc, ◌+◌, ◌≤◌, ◌<◌, List, [], ◌∷◌, ◌++◌, map, length, Some, refl, ap, ◌∙◌, arith}
use Rattle.std.specs.Prelude.{sum, sum_by, slice_get, slice_index}
use Rattle.std.proofs.lemmas.List.Sums as sums
use Rattle.lower_places.specs.Parts.{above, until}

pub sum-cons : (x : ℕ) (xs : List ℕ) → sum (x ∷ xs) ≡ x + sum xs
sum-cons x xs = sums.sum_by-cons (λ (n : ℕ). n) x xs

pub sum-append : (xs ys : List ℕ) → sum (xs ++ ys) ≡ sum xs + sum ys
sum-append xs ys = sums.sum_by-append (λ (n : ℕ). n) xs ys

pub sum-map : {A : Type 0} (f : A → ℕ) (xs : List A) → sum (map f xs) ≡ sum_by f xs
sum-map f xs = sums.sum-map f xs

pub parts-apart : (parts : List ℕ) (i j : ℕ) → i < j → until parts i ≤ above parts j
parts-apart [] i j h = omega arith
parts-apart (p ∷ ps) i zero h = absurd (omega (arith, h))
parts-apart (p ∷ ps) zero (suc j) h = omega arith
parts-apart (p ∷ ps) (suc i) (suc j) h = let more = parts-apart ps i j (omega (arith, h)) in omega (arith, more)

pub parts-inside : (parts : List ℕ) (i : ℕ) → until parts i ≤ sum parts
parts-inside [] i = omega arith
parts-inside (p ∷ ps) zero = let all = sum-cons p ps in omega (arith, all)
parts-inside (p ∷ ps) (suc i) = let all = sum-cons p ps in let more = parts-inside ps i in omega (arith, all, more)

pub length-map : {A : Type 0} (f : A → ℕ) (xs : List A) → length (map f xs) ≡ length xs
length-map f [] = refl
length-map f (x ∷ xs) = ap suc (length-map f xs)

-- the part with a number is that of another list with a number, behind so many bytes
pub record Leads (xs : List ℕ) (n : ℕ) (ys : List ℕ) (k before : ℕ) : Type 0 where
  pub over : above xs n ≡ before + above ys k
  pub at : slice_index xs n ≡ slice_index ys k

pub skip : (xs ys : List ℕ) (n k : ℕ) → n ≡ length xs + k → Leads (xs ++ ys) n ys k (sum xs)
skip [] ys n k e =
    let same : n ≡ k = omega (arith, e) in
    record { over = ap (above ys) same ∙ plain (above ys k); at = ap (slice_index ys) same }
  where
    plain : (m : ℕ) → m ≡ 0 + m
    plain m = omega arith
skip (x ∷ xs) ys n k e =
    let next : n ≡ suc (length xs + k) = omega (arith, e) in
    let more = skip xs ys (length xs + k) k refl in
    let over = more.over in
    let all = sum-cons x xs in
    record { over = ap (above (x ∷ (xs ++ ys))) next ∙ omega (arith, over, all); at = ap (slice_index (x ∷ (xs ++ ys))) next ∙ more.at }

pub follow : (xs : List ℕ) (n : ℕ) (ys : List ℕ) (k : ℕ) (zs : List ℕ) (j b c : ℕ) → Leads xs n ys k b → Leads ys k zs j c → Leads xs n zs j (b + c)
follow xs n ys k zs j b c one two = let first = one.over in let second = two.over in record { over = omega (arith, first, second); at = one.at ∙ two.at }

-- one of a list that was mapped
pub mapped-at : {A : Type 0} (f : A → ℕ) (xs : List A) (ys : List ℕ) (n : ℕ) (x : A) → slice_get xs n ≡ Some x → slice_index (map f xs ++ ys) n ≡ f x
mapped-at f [] ys n x e = absurd cc
mapped-at f (y ∷ xs) ys zero x e = let same : y ≡ x = cc in ap f same
mapped-at f (y ∷ xs) ys (suc n) x e = mapped-at f xs ys n x e
