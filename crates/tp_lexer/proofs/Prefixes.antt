-- How long a run of bytes that pass a test is.
use Rattle.std.proofs.Common.{◌≡◌, ℕ, zero, suc, ◌+◌, ◌≤◌, Bool, true, false, cond, ◌&&◌, List, [], ◌∷◌, ◌++◌, length, take, drop, refl, ap, ◌∙◌, arith}
use Rattle.std.specs.List.{prefix_len, list_all}
use Rattle.std.proofs.Math.Numerals.{one-add}

pub and_left : (a b : Bool) → (a && b) ≡ true → a ≡ true
and_left true b e = refl
and_left false b e = e

pub and_right : (a b : Bool) → (a && b) ≡ true → b ≡ true
and_right true b e = e
and_right false b e = absurd (let h : false ≡ true = e in cc)

longer : (passes others : Bool) (n rest : ℕ) → (passes && others) ≡ true → (others ≡ true → n ≤ rest) → suc n ≤ cond passes (1 + rest) 0
longer true others n rest all more = let h = more all in omega arith
longer false others n rest all more = absurd (let h : false ≡ true = all in cc)

pub prefix_ge : (test : ℕ → Bool) (xs ys : List ℕ) → list_all test xs ≡ true → length xs ≤ prefix_len test (xs ++ ys)
prefix_ge test [] ys all = omega arith
prefix_ge test (x ∷ xs) ys all = longer (test x) (list_all test xs) (length xs) (prefix_len test (xs ++ ys)) all (λ others. prefix_ge test xs ys others)

as_long : (passes others : Bool) (n rest : ℕ) → (passes && others) ≡ true → (others ≡ true → rest ≡ n) → cond passes (1 + rest) 0 ≡ suc n
as_long true others n rest all more = let h = more all in omega arith
as_long false others n rest all more = absurd (let h : false ≡ true = all in cc)

pub prefix_is : (test : ℕ → Bool) (xs : List ℕ) (y : ℕ) (ys : List ℕ) → list_all test xs ≡ true → test y ≡ false → prefix_len test (xs ++ y ∷ ys) ≡ length xs
prefix_is test [] y ys all stops = ap (λ (b : Bool). cond b (1 + prefix_len test ys) 0) stops
prefix_is test (x ∷ xs) y ys all stops = as_long (test x) (list_all test xs) (length xs) (prefix_len test (xs ++ y ∷ ys)) all (λ others. prefix_is test xs y ys others stops)

pub take_more : (n x : ℕ) (xs : List ℕ) → take (1 + n) (x ∷ xs) ≡ x ∷ take n xs
take_more n x xs = ap (λ (m : ℕ). take m (x ∷ xs)) (one-add n)

pub drop_more : (n x : ℕ) (xs : List ℕ) → drop (1 + n) (x ∷ xs) ≡ drop n xs
drop_more n x xs = ap (λ (m : ℕ). drop m (x ∷ xs)) (one-add n)

passes_step : (test : ℕ → Bool) (x : ℕ) (xs : List ℕ) (n : ℕ) (b : Bool) → test x ≡ b → list_all test (take n xs) ≡ true → list_all test (take (cond b (1 + n) 0) (x ∷ xs)) ≡ true
passes_step test x xs n true is others =
    ap (list_all test) (take_more n x xs) ∙ ap (λ (b : Bool). b && list_all test (take n xs)) is ∙ others
passes_step test x xs n false is others = refl

pub prefix_passes : (test : ℕ → Bool) (xs : List ℕ) → list_all test (take (prefix_len test xs) xs) ≡ true
prefix_passes test [] = refl
prefix_passes test (x ∷ xs) = passes_step test x xs (prefix_len test xs) (test x) refl (prefix_passes test xs)

pub drop_front : (xs ys : List ℕ) (n : ℕ) → n ≡ length xs → drop n (xs ++ ys) ≡ ys
drop_front [] ys n is = ap (λ (m : ℕ). drop m ys) is
drop_front (x ∷ xs) ys zero is = absurd (omega arith)
drop_front (x ∷ xs) ys (suc n) is = drop_front xs ys n (omega arith)
