-- A comment or a symbol that is taken at the front of a text stands in the grammar.
use Rattle.std.proofs.Common.{◌≡◌, ◌⊎◌, inl, inr, ℕ, ◌+◌, ◌<◌, ◌≤◌, Bool, true, false, cond, not, ◌&&◌, eqb, ltb, List, [], ◌∷◌, ◌++◌, length, take, get_or, refl, ap, sym, ◌∙◌, subst, arith, append_assoc, append-nil, length-append}
use Rattle.std.specs.List.{prefix_len}
use Rattle.std.specs.Prelude.{is_some}
use Rattle.std.proofs.Math.Seq.{take-length}
use Rattle.std.proofs.lemmas.List.{take-append-le}
use Rattle.std.proofs.lemmas.Bool.Decides.{nat_tests}
use Rattle.tp_lexer.specs.Shapes.{extent, star_len, brace_extent, star_extent, comment_extent}
use Rattle.tp_lexer.specs.Pieces.{symbol_extent}
use Rattle.tp_lexer.specs.Symbols.{symbol_of}
use Rattle.tp_lexer.specs.Grammar.{has_no_brace, HasNoStar, IsComment, IsOpenComment}
use Rattle.tp_lexer.specs.declared.shape.Shape.TheVariants as s
use Rattle.tp_lexer.proofs.Prefixes.{and_left, and_right}
use Rattle.tp_lexer.proofs.Taken.{IsSound, sound_by}

-- a text with no closer, or its front up to the first one
abbrev Split : (List ℕ → Type 0) → List ℕ → List ℕ → ℕ → Type 0
Split HasNone closer xs n = (HasNone xs × (n ≡ length xs))
    ⊎ ((body : List ℕ) × (rest : List ℕ) × HasNone body × (xs ≡ body ++ (closer ++ rest)) × (n ≡ length body))

abbrev NoBrace : List ℕ → Type 0
NoBrace xs = has_no_brace xs ≡ true

brace_split_by : (x : ℕ) (xs : List ℕ) (b : Bool) → eqb x 125 ≡ b → Split NoBrace (125 ∷ []) xs (prefix_len (λ c. not (eqb c 125)) xs) → Split NoBrace (125 ∷ []) (x ∷ xs) (cond (not b) (1 + prefix_len (λ c. not (eqb c 125)) xs) 0)
brace_split_by x xs true is split =
    let brace : x ≡ 125 = grind (arith, nat_tests) in
    inr ([], xs, refl, ap (λ (c : ℕ). c ∷ xs) brace, refl)
brace_split_by x xs false is (inl none) =
    inl (ap (λ (b : Bool). not b && has_no_brace xs) is ∙ none.0, (let h = none.1 in omega arith))
brace_split_by x xs false is (inr found) =
    inr (x ∷ found.0, found.1, ap (λ (b : Bool). not b && has_no_brace found.0) is ∙ found.2, ap (λ (t : List ℕ). x ∷ t) found.3, (let h = found.4 in omega arith))

brace_split : (xs : List ℕ) → Split NoBrace (125 ∷ []) xs (prefix_len (λ c. not (eqb c 125)) xs)
brace_split [] = inl (refl, refl)
brace_split (x ∷ xs) = brace_split_by x xs (eqb x 125) refl (brace_split xs)

no_star_in_none : HasNoStar []
no_star_in_none [] back e = let k : [] ≡ 42 ∷ 41 ∷ back = e in cc
no_star_in_none (c ∷ front) back e = let k : [] ≡ c ∷ (front ++ 42 ∷ 41 ∷ back) = e in cc

no_star_more : (x : ℕ) (xs body rest : List ℕ) → (eqb x 42 && eqb (get_or xs 0 0) 41) ≡ false → xs ≡ body ++ rest → HasNoStar body → HasNoStar (x ∷ body)
no_star_more x xs body rest is whole none [] back e =
    let same : x ≡ 42 = cc in
    let others : body ≡ 41 ∷ back = cc in
    let next : get_or xs 0 0 ≡ 41 = ap (λ (t : List ℕ). get_or t 0 0) (whole ∙ ap (λ (t : List ℕ). t ++ rest) others) in
    let both : (eqb x 42 && eqb (get_or xs 0 0) 41) ≡ true = ap (λ (n : ℕ). eqb n 42 && eqb (get_or xs 0 0) 41) same ∙ ap (λ (n : ℕ). eqb n 41) next in
    let k : false ≡ true = sym is ∙ both in cc
no_star_more x xs body rest is whole none (c ∷ front) back e = none front back (let k : body ≡ front ++ 42 ∷ 41 ∷ back = cc in k)

star_split_by : (x : ℕ) (xs : List ℕ) (b : Bool) → (eqb x 42 && eqb (get_or xs 0 0) 41) ≡ b → Split HasNoStar (42 ∷ 41 ∷ []) xs (star_len xs) → Split HasNoStar (42 ∷ 41 ∷ []) (x ∷ xs) (cond b 0 (1 + star_len xs))
star_split_by x [] true is split = absurd (let h = and_right (eqb x 42) false is in let k : false ≡ true = h in cc)
star_split_by x (y ∷ ys) true is split =
    let star : x ≡ 42 = grind (arith, nat_tests, and_left (eqb x 42) (eqb y 41) is) in
    let close : y ≡ 41 = grind (arith, nat_tests, and_right (eqb x 42) (eqb y 41) is) in
    inr ([], ys, no_star_in_none, cc (star, close), refl)
star_split_by x xs false is (inl none) =
    inl (no_star_more x xs xs [] is (sym (append-nil xs)) none.0, (let h = none.1 in omega arith))
star_split_by x xs false is (inr found) =
    inr (x ∷ found.0, found.1, no_star_more x xs found.0 ((42 ∷ 41 ∷ []) ++ found.1) is found.3 found.2, ap (λ (t : List ℕ). x ∷ t) found.3, (let h = found.4 in omega arith))

star_split : (xs : List ℕ) → Split HasNoStar (42 ∷ 41 ∷ []) xs (star_len xs)
star_split [] = inl (no_star_in_none, refl)
star_split (x ∷ xs) = star_split_by x xs (eqb x 42 && eqb (get_or xs 0 0) 41) refl (star_split xs)

open_by : (b : Bool) (bracket n : ℕ) (bytes : List ℕ) → ltb (bracket + n) (length bytes) ≡ b → bracket + n ≡ length bytes → IsOpenComment bytes → IsSound bytes (cond b (extent s.Comment (bracket + n + bracket)) (extent s.OpenComment (length bytes)))
open_by true bracket n bytes is long open_there = absurd (let h : bracket + n < length bytes = grind (arith, nat_tests) in omega arith)
open_by false bracket n bytes is long open_there = subst IsOpenComment (sym (take-length bytes)) open_there

take_front : (xs ys : List ℕ) → take (length xs) (xs ++ ys) ≡ xs
take_front xs ys = take-append-le (length xs) xs ys (omega arith) ∙ take-length xs

closed_by : (b : Bool) (bracket n : ℕ) (comment rest : List ℕ) → ltb (bracket + n) (length (comment ++ rest)) ≡ b → bracket + n + bracket ≡ length comment → 0 < bracket → IsComment comment →
    IsSound (comment ++ rest) (cond b (extent s.Comment (bracket + n + bracket)) (extent s.OpenComment (length (comment ++ rest))))
closed_by true bracket n comment rest is long some closed =
    let front : take (bracket + n + bracket) (comment ++ rest) ≡ comment = ap (λ (m : ℕ). take m (comment ++ rest)) long ∙ take_front comment rest in
    subst IsComment (sym front) closed
closed_by false bracket n comment rest is long some closed =
    absurd (let h : length (comment ++ rest) ≤ bracket + n = grind (arith, nat_tests) in omega (arith, length-append comment rest))

brace_by : (xs : List ℕ) (n : ℕ) → Split NoBrace (125 ∷ []) xs n → IsSound (123 ∷ xs) (comment_extent 1 n (123 ∷ xs))
brace_by xs n (inl none) =
    let long : 1 + n ≡ length (123 ∷ xs) = (let h = none.1 in omega arith) in
    open_by (ltb (1 + n) (length (123 ∷ xs))) 1 n (123 ∷ xs) refl long (inl (xs, refl, none.0))
brace_by xs n (inr found) =
    let body = found.0 in
    let rest = found.1 in
    let comment : List ℕ = 123 ∷ (body ++ 125 ∷ []) in
    let whole : comment ++ rest ≡ 123 ∷ xs = ap (λ (t : List ℕ). 123 ∷ t) (append_assoc body (125 ∷ []) rest ∙ sym found.3) in
    let m = found.4 in
    let long : 1 + n + 1 ≡ length comment = omega (arith, length-append body (125 ∷ [])) in
    let one : 0 < 1 = omega arith in
    subst (λ (b : List ℕ). IsSound b (comment_extent 1 n b)) whole (closed_by (ltb (1 + n) (length (comment ++ rest))) 1 n comment rest refl long one (inl (body, refl, found.2)))

star_by : (xs : List ℕ) (n : ℕ) → Split HasNoStar (42 ∷ 41 ∷ []) xs n → IsSound (40 ∷ 42 ∷ xs) (comment_extent 2 n (40 ∷ 42 ∷ xs))
star_by xs n (inl none) =
    let long : 2 + n ≡ length (40 ∷ 42 ∷ xs) = (let h = none.1 in omega arith) in
    open_by (ltb (2 + n) (length (40 ∷ 42 ∷ xs))) 2 n (40 ∷ 42 ∷ xs) refl long (inr (xs, refl, none.0))
star_by xs n (inr found) =
    let body = found.0 in
    let rest = found.1 in
    let comment : List ℕ = 40 ∷ 42 ∷ (body ++ 42 ∷ 41 ∷ []) in
    let whole : comment ++ rest ≡ 40 ∷ 42 ∷ xs = ap (λ (t : List ℕ). 40 ∷ 42 ∷ t) (append_assoc body (42 ∷ 41 ∷ []) rest ∙ sym found.3) in
    let m = found.4 in
    let long : 2 + n + 2 ≡ length comment = omega (arith, length-append body (42 ∷ 41 ∷ [])) in
    let two : 0 < 2 = omega arith in
    subst (λ (b : List ℕ). IsSound b (comment_extent 2 n b)) whole (closed_by (ltb (2 + n) (length (comment ++ rest))) 2 n comment rest refl long two (inr (body, refl, found.2)))

pub brace_sound : (xs : List ℕ) → IsSound (123 ∷ xs) (brace_extent (123 ∷ xs))
brace_sound xs = brace_by xs (prefix_len (λ c. not (eqb c 125)) xs) (brace_split xs)

pub star_sound : (xs : List ℕ) → IsSound (40 ∷ 42 ∷ xs) (star_extent (40 ∷ 42 ∷ xs))
star_sound xs = star_by xs (star_len xs) (star_split xs)

pub symbol_sound : (c : ℕ) (cs : List ℕ) → IsSound (c ∷ cs) (symbol_extent (c ∷ cs))
symbol_sound c cs =
    let bytes : List ℕ = c ∷ cs in
    let one = cond (is_some (symbol_of (take 1 bytes))) (extent s.Symbol 1) (extent s.Other 1) in
    let two = is_some (symbol_of (take 2 bytes)) in
    sound_by (IsSound bytes) (ltb 1 (length bytes) && two) (extent s.Symbol 2) one (λ is. and_right (ltb 1 (length bytes)) two is)
    (λ _. sound_by (IsSound bytes) (is_some (symbol_of (take 1 bytes))) (extent s.Symbol 1) (extent s.Other 1) (λ is. is) (λ _. refl))
