-- No longer front of a text is a comment or a symbol than the one that is taken.
use Rattle.std.proofs.Common.{◌≡◌, inl, inr, ℕ, ◌+◌, ◌<◌, ◌≤◌, Bool, true, false, cond, not, ◌&&◌, ◌||◌, eqb, ltb, List, [], ◌∷◌, ◌++◌, length, take, get_or, Option, Some, refl, ap, sym, ◌∙◌, subst, arith, append_assoc, length-append}
use Rattle.std.specs.List.{prefix_len, list_all}
use Rattle.std.specs.Map.{lookup}
use Rattle.std.specs.Prelude.{is_some, nat_eq}
use Rattle.std.specs.Char.{is_ascii_digit}
use Rattle.std.specs.Cmp.Lexicographic.{pointwise, same_text}
use Rattle.std.proofs.lemmas.Bool.Decides.{nat_tests}
use Rattle.tp_lexer.specs.Characters.{is_letter, is_blank}
use Rattle.tp_lexer.specs.Shapes.{extent, star_len, brace_extent, star_extent}
use Rattle.tp_lexer.specs.Pieces.{shape_at, passed_at, symbol_extent, opens_star}
use Rattle.tp_lexer.specs.Symbols.{symbol_of, spellings}
use Rattle.tp_lexer.specs.Grammar.{has_no_brace, HasNoStar, IsComment, IsOpenComment}
use Rattle.tp_lexer.specs.declared.symbol.Symbol.{Symbol}
use Rattle.tp_lexer.specs.declared.shape.Shape.TheVariants as s
use Rattle.tp_lexer.specs.declared.shape.Extent.{Extent}
use Rattle.tp_lexer.proofs.Prefixes.{and_left, and_right, prefix_ge, prefix_is}
use Rattle.tp_lexer.proofs.Longest.{IsBest, best_of, when_true, when_false}

closed_by : (b : Bool) (bracket body n : ℕ) (bytes : List ℕ) → ltb (bracket + body) (length bytes) ≡ b → bracket + body < length bytes → n ≡ bracket + body + bracket → IsBest s.Comment n (cond b (extent s.Comment (bracket + body + bracket)) (extent s.OpenComment (length bytes)))
closed_by true bracket body n bytes is within long = inr (long, refl)
closed_by false bracket body n bytes is within long = absurd (let h : length bytes ≤ bracket + body = grind (arith, nat_tests) in omega arith)

open_by : (b : Bool) (bracket body n : ℕ) (bytes : List ℕ) → ltb (bracket + body) (length bytes) ≡ b → n < bracket + body + bracket → n ≤ length bytes → IsBest s.OpenComment n (cond b (extent s.Comment (bracket + body + bracket)) (extent s.OpenComment (length bytes)))
open_by true bracket body n bytes is less within = inl less
open_by false bracket body n bytes is less within = best_of s.OpenComment n (length bytes) within

brace_closed : (body back : List ℕ) → has_no_brace body ≡ true → IsBest s.Comment (length (123 ∷ (body ++ 125 ∷ []))) (brace_extent (123 ∷ ((body ++ 125 ∷ []) ++ back)))
brace_closed body back none =
    let bytes : List ℕ = 123 ∷ ((body ++ 125 ∷ []) ++ back) in
    let k = prefix_len (λ c. not (eqb c 125)) ((body ++ 125 ∷ []) ++ back) in
    let long : k ≡ length body = ap (prefix_len (λ c. not (eqb c 125))) (append_assoc body (125 ∷ []) back) ∙ prefix_is (λ c. not (eqb c 125)) body 125 back none refl in
    let whole : length (body ++ 125 ∷ []) ≡ length body + 1 = length-append body (125 ∷ []) in
    let all : length ((body ++ 125 ∷ []) ++ back) ≡ length (body ++ 125 ∷ []) + length back = length-append (body ++ 125 ∷ []) back in
    let within : 1 + k < length bytes = omega arith in
    let n : length (123 ∷ (body ++ 125 ∷ [])) ≡ 1 + k + 1 = omega arith in
    closed_by (ltb (1 + k) (length bytes)) 1 k (length (123 ∷ (body ++ 125 ∷ []))) bytes refl within n

brace_open : (body back : List ℕ) → has_no_brace body ≡ true → IsBest s.OpenComment (length (123 ∷ body)) (brace_extent (123 ∷ (body ++ back)))
brace_open body back none =
    let bytes : List ℕ = 123 ∷ (body ++ back) in
    let k = prefix_len (λ c. not (eqb c 125)) (body ++ back) in
    let long : length body ≤ k = prefix_ge (λ c. not (eqb c 125)) body back none in
    let whole : length (body ++ back) ≡ length body + length back = length-append body back in
    let less : length (123 ∷ body) < 1 + k + 1 = omega arith in
    let within : length (123 ∷ body) ≤ length bytes = omega arith in
    open_by (ltb (1 + k) (length bytes)) 1 k (length (123 ∷ body)) bytes refl less within

no_star_behind : (c : ℕ) (cs : List ℕ) → HasNoStar (c ∷ cs) → HasNoStar cs
no_star_behind c cs none front back e = none (c ∷ front) back (ap (λ (t : List ℕ). c ∷ t) e)

no_star_here : (c : ℕ) (cs rest : List ℕ) (b : Bool) → HasNoStar (c ∷ cs) → (eqb c 42 && eqb (get_or (cs ++ 42 ∷ rest) 0 0) 41) ≡ b → b ≡ false
no_star_here c cs rest false none is = refl
no_star_here c [] rest true none is = absurd (let h = and_right (eqb c 42) false is in let k : false ≡ true = h in cc)
no_star_here c (d ∷ ds) rest true none is =
    absurd (let x : c ≡ 42 = grind (arith, nat_tests, and_left (eqb c 42) (eqb d 41) is) in
    let y : d ≡ 41 = grind (arith, nat_tests, and_right (eqb c 42) (eqb d 41) is) in
    none [] ds (cc (x, y)))

star_is : (body rest : List ℕ) → HasNoStar body → star_len (body ++ 42 ∷ 41 ∷ rest) ≡ length body
star_is [] rest none = refl
star_is (c ∷ cs) rest none =
    let more = star_len (cs ++ 42 ∷ 41 ∷ rest) in
    let h : more ≡ length cs = star_is cs rest (no_star_behind c cs none) in
    let long : 1 + more ≡ length (c ∷ cs) = omega arith in
    ap (λ (b : Bool). cond b 0 (1 + more)) (no_star_here c cs (41 ∷ rest) _ none refl) ∙ long

no_star_pair : (c d : ℕ) (ds : List ℕ) (b : Bool) → HasNoStar (c ∷ d ∷ ds) → (eqb c 42 && eqb d 41) ≡ b → b ≡ false
no_star_pair c d ds false none is = refl
no_star_pair c d ds true none is =
    absurd (let x : c ≡ 42 = grind (arith, nat_tests, and_left (eqb c 42) (eqb d 41) is) in
    let y : d ≡ 41 = grind (arith, nat_tests, and_right (eqb c 42) (eqb d 41) is) in
    none [] ds (cc (x, y)))

star_ge : (body rest : List ℕ) → HasNoStar body → length body ≤ star_len (body ++ rest) + 1
star_ge [] rest none = omega arith
star_ge (c ∷ []) rest none = omega arith
star_ge (c ∷ d ∷ ds) rest none =
    let more = star_len ((d ∷ ds) ++ rest) in
    let h : length (d ∷ ds) ≤ more + 1 = star_ge (d ∷ ds) rest (no_star_behind c (d ∷ ds) none) in
    let long : length (c ∷ d ∷ ds) ≤ 1 + more + 1 = omega arith in
    subst (λ (b : Bool). length (c ∷ d ∷ ds) ≤ cond b 0 (1 + more) + 1) (sym (no_star_pair c d ds _ none refl)) long

star_closed : (body back : List ℕ) → HasNoStar body → IsBest s.Comment (length (40 ∷ 42 ∷ (body ++ 42 ∷ 41 ∷ []))) (star_extent (40 ∷ 42 ∷ ((body ++ 42 ∷ 41 ∷ []) ++ back)))
star_closed body back none =
    let bytes : List ℕ = 40 ∷ 42 ∷ ((body ++ 42 ∷ 41 ∷ []) ++ back) in
    let k = star_len ((body ++ 42 ∷ 41 ∷ []) ++ back) in
    let long : k ≡ length body = ap star_len (append_assoc body (42 ∷ 41 ∷ []) back) ∙ star_is body back none in
    let whole : length (body ++ 42 ∷ 41 ∷ []) ≡ length body + 2 = length-append body (42 ∷ 41 ∷ []) in
    let all : length ((body ++ 42 ∷ 41 ∷ []) ++ back) ≡ length (body ++ 42 ∷ 41 ∷ []) + length back = length-append (body ++ 42 ∷ 41 ∷ []) back in
    let within : 2 + k < length bytes = omega arith in
    let n : length (40 ∷ 42 ∷ (body ++ 42 ∷ 41 ∷ [])) ≡ 2 + k + 2 = omega arith in
    closed_by (ltb (2 + k) (length bytes)) 2 k (length (40 ∷ 42 ∷ (body ++ 42 ∷ 41 ∷ []))) bytes refl within n

star_open : (body back : List ℕ) → HasNoStar body → IsBest s.OpenComment (length (40 ∷ 42 ∷ body)) (star_extent (40 ∷ 42 ∷ (body ++ back)))
star_open body back none =
    let bytes : List ℕ = 40 ∷ 42 ∷ (body ++ back) in
    let k = star_len (body ++ back) in
    let long : length body ≤ k + 1 = star_ge body back none in
    let whole : length (body ++ back) ≡ length body + length back = length-append body back in
    let less : length (40 ∷ 42 ∷ body) < 2 + k + 2 = omega arith in
    let within : length (40 ∷ 42 ∷ body) ≤ length bytes = omega arith in
    open_by (ltb (2 + k) (length bytes)) 2 k (length (40 ∷ 42 ∷ body)) bytes refl less within

-- what takes comments as braces and stars tell
pub record TakesComments (taken : List ℕ → Extent) : Type 0 where
  pub brace : (xs : List ℕ) → taken (123 ∷ xs) ≡ brace_extent (123 ∷ xs)
  pub star : (xs : List ℕ) → taken (40 ∷ 42 ∷ xs) ≡ star_extent (40 ∷ 42 ∷ xs)

pub read_comments : TakesComments shape_at
read_comments = record { brace = λ xs. refl; star = λ xs. refl }

pub skipped_comments : TakesComments passed_at
skipped_comments = record { brace = λ xs. refl; star = λ xs. refl }

pub comment_best : (taken : List ℕ → Extent) → TakesComments taken → (front back : List ℕ) → IsComment front → IsBest s.Comment (length front) (taken (front ++ back))
comment_best taken takes front back (inl k) =
    subst (λ (f : List ℕ). IsBest s.Comment (length f) (taken (f ++ back))) (sym k.1)
    (subst (IsBest s.Comment (length (123 ∷ (k.0 ++ 125 ∷ [])))) (sym (takes.brace ((k.0 ++ 125 ∷ []) ++ back))) (brace_closed k.0 back k.2))
comment_best taken takes front back (inr k) =
    subst (λ (f : List ℕ). IsBest s.Comment (length f) (taken (f ++ back))) (sym k.1)
    (subst (IsBest s.Comment (length (40 ∷ 42 ∷ (k.0 ++ 42 ∷ 41 ∷ [])))) (sym (takes.star ((k.0 ++ 42 ∷ 41 ∷ []) ++ back))) (star_closed k.0 back k.2))

pub open_comment_best : (taken : List ℕ → Extent) → TakesComments taken → (front back : List ℕ) → IsOpenComment front → IsBest s.OpenComment (length front) (taken (front ++ back))
open_comment_best taken takes front back (inl k) =
    subst (λ (f : List ℕ). IsBest s.OpenComment (length f) (taken (f ++ back))) (sym k.1)
    (subst (IsBest s.OpenComment (length (123 ∷ k.0))) (sym (takes.brace (k.0 ++ back))) (brace_open k.0 back k.2))
open_comment_best taken takes front back (inr k) =
    subst (λ (f : List ℕ). IsBest s.OpenComment (length f) (taken (f ++ back))) (sym k.1)
    (subst (IsBest s.OpenComment (length (40 ∷ 42 ∷ k.0))) (sym (takes.star (k.0 ++ back))) (star_open k.0 back k.2))

-- a spelling in the table of symbols: one or two bytes, no opener of a comment, and the first begins nothing else
abbrev begins_symbol : ℕ → Bool
begins_symbol c = not (is_blank c) && not (is_letter c) && not (is_ascii_digit c) && not (eqb c 36) && not (eqb c 39 || eqb c 35) && not (eqb c 123)

abbrev is_plain : List ℕ → Bool
is_plain [] = false
is_plain (c ∷ []) = begins_symbol c
is_plain (c ∷ d ∷ []) = begins_symbol c && not (eqb c 40 && eqb d 42)
is_plain (c ∷ d ∷ e ∷ bytes) = false

all_plain : list_all (λ (e : List ℕ × Symbol). is_plain e.0) spellings ≡ true
all_plain = refl

found_plain : (bytes : List ℕ) (b : Bool) (k : List ℕ) (y : Symbol) (others : Option Symbol) → pointwise nat_eq bytes k ≡ b → is_plain k ≡ true → is_some (cond b (Some y) others) ≡ true → (is_some others ≡ true → is_plain bytes ≡ true) → is_plain bytes ≡ true
found_plain bytes true k y others is plain some more = subst (λ (t : List ℕ). is_plain t ≡ true) (sym (same_text bytes k (sym is))) plain
found_plain bytes false k y others is plain some more = more some

looked_up : (bytes : List ℕ) (table : List (List ℕ × Symbol)) → list_all (λ (e : List ℕ × Symbol). is_plain e.0) table ≡ true → is_some (lookup (pointwise nat_eq bytes) table) ≡ true → is_plain bytes ≡ true
looked_up bytes [] all some = absurd (let k : false ≡ true = some in cc)
looked_up bytes (e ∷ es) all some =
    found_plain bytes (pointwise nat_eq bytes e.0) e.0 e.1 (lookup (pointwise nat_eq bytes) es) refl (and_left _ _ all) some
    (λ others. looked_up bytes es (and_right _ _ all) others)

pub symbol_is_plain : (bytes : List ℕ) → is_some (symbol_of bytes) ≡ true → is_plain bytes ≡ true
symbol_is_plain bytes some = looked_up bytes spellings all_plain some

abbrev pub symbol_or_star : List ℕ → Extent
symbol_or_star bytes = cond (opens_star bytes) (star_extent bytes) (symbol_extent bytes)

symbol_branch : (b1 b2 b3 b4 b5 b6 : Bool) (x1 x2 x3 x4 x5 x6 y : Extent) → (not b1 && not b2 && not b3 && not b4 && not b5 && not b6) ≡ true → cond b1 x1 (cond b2 x2 (cond b3 x3 (cond b4 x4 (cond b5 x5 (cond b6 x6 y))))) ≡ y
symbol_branch false false false false false false x1 x2 x3 x4 x5 x6 y is = refl
symbol_branch true b2 b3 b4 b5 b6 x1 x2 x3 x4 x5 x6 y is = absurd (let k : false ≡ true = is in cc)
symbol_branch false true b3 b4 b5 b6 x1 x2 x3 x4 x5 x6 y is = absurd (let k : false ≡ true = is in cc)
symbol_branch false false true b4 b5 b6 x1 x2 x3 x4 x5 x6 y is = absurd (let k : false ≡ true = is in cc)
symbol_branch false false false true b5 b6 x1 x2 x3 x4 x5 x6 y is = absurd (let k : false ≡ true = is in cc)
symbol_branch false false false false true b6 x1 x2 x3 x4 x5 x6 y is = absurd (let k : false ≡ true = is in cc)
symbol_branch false false false false false true x1 x2 x3 x4 x5 x6 y is = absurd (let k : false ≡ true = is in cc)

plain_at_front : (c : ℕ) (cs : List ℕ) → begins_symbol c ≡ true → shape_at (c ∷ cs) ≡ symbol_or_star (c ∷ cs)
plain_at_front c cs plain = symbol_branch (is_blank c) (is_letter c) (is_ascii_digit c) (eqb c 36) (eqb c 39 || eqb c 35) (eqb c 123) _ _ _ _ _ _ (symbol_or_star (c ∷ cs)) plain

longer_by : (b : Bool) (x y : Extent) → 1 < x.length → 1 < y.length → 1 < (cond b x y).length
longer_by true x y left right = left
longer_by false x y left right = right

star_is_longer : (c : ℕ) (cs : List ℕ) → 1 < (star_extent (40 ∷ 42 ∷ cs)).length
star_is_longer c cs =
    let bytes : List ℕ = 40 ∷ 42 ∷ cs in
    let k = star_len cs in
    longer_by (ltb (2 + k) (length bytes)) (extent s.Comment (2 + k + 2)) (extent s.OpenComment (length bytes)) (omega arith) (omega arith)

symbol_by_one : (b : Bool) → IsBest s.Symbol 1 (cond b (extent s.Symbol 2) (extent s.Symbol 1))
symbol_by_one true = let less : 1 < 2 = omega arith in inl less
symbol_by_one false = inr (refl, refl)

one_symbol : (c : ℕ) (back : List ℕ) → is_some (symbol_of (c ∷ [])) ≡ true → IsBest s.Symbol 1 (symbol_extent (c ∷ back))
one_symbol c back some =
    let two = ltb 1 (length (c ∷ back)) && is_some (symbol_of (take 2 (c ∷ back))) in
    subst (λ (b : Bool). IsBest s.Symbol 1 (cond two (extent s.Symbol 2) (cond b (extent s.Symbol 1) (extent s.Other 1)))) (sym some) (symbol_by_one two)

two_symbol : (c d : ℕ) (back : List ℕ) → is_some (symbol_of (c ∷ d ∷ [])) ≡ true → IsBest s.Symbol 2 (symbol_extent (c ∷ d ∷ back))
two_symbol c d back some =
    let one = cond (is_some (symbol_of (c ∷ []))) (extent s.Symbol 1) (extent s.Other 1) in
    let long : ltb 1 (length (c ∷ d ∷ back)) ≡ true = grind (arith, nat_tests) in
    let both : (ltb 1 (length (c ∷ d ∷ back)) && is_some (symbol_of (c ∷ d ∷ []))) ≡ true = ap (λ (b : Bool). b && is_some (symbol_of (c ∷ d ∷ []))) long ∙ some in
    when_true (IsBest s.Symbol 2) (ltb 1 (length (c ∷ d ∷ back)) && is_some (symbol_of (c ∷ d ∷ []))) (extent s.Symbol 2) one both (inr (refl, refl))

one_or_star : (c : ℕ) (back : List ℕ) (b : Bool) → opens_star (c ∷ back) ≡ b → is_some (symbol_of (c ∷ [])) ≡ true → IsBest s.Symbol 1 (cond b (star_extent (c ∷ back)) (symbol_extent (c ∷ back)))
one_or_star c back false is some = one_symbol c back some
one_or_star c [] true is some = absurd (let h = and_right (eqb c 40) false is in let k : false ≡ true = h in cc)
one_or_star c (d ∷ back) true is some =
    let x : 40 ≡ c = grind (arith, nat_tests, and_left (eqb c 40) (eqb d 42) is) in
    let y : 42 ≡ d = grind (arith, nat_tests, and_right (eqb c 40) (eqb d 42) is) in
    subst (λ (n : ℕ). IsBest s.Symbol 1 (star_extent (n ∷ d ∷ back))) x (subst (λ (n : ℕ). IsBest s.Symbol 1 (star_extent (40 ∷ n ∷ back))) y (inl (star_is_longer 42 back)))

no_star : (a b : Bool) → (a && not b) ≡ true → b ≡ false
no_star true false is = refl
no_star true true is = absurd (let k : false ≡ true = is in cc)
no_star false b is = absurd (let k : false ≡ true = is in cc)

symbol_from : (front back : List ℕ) → is_plain front ≡ true → is_some (symbol_of front) ≡ true → IsBest s.Symbol (length front) (shape_at (front ++ back))
symbol_from [] back plain some = absurd (let k : false ≡ true = plain in cc)
symbol_from (c ∷ []) back plain some = subst (IsBest s.Symbol 1) (sym (plain_at_front c back plain)) (one_or_star c back (opens_star (c ∷ back)) refl some)
symbol_from (c ∷ d ∷ []) back plain some =
    subst (IsBest s.Symbol 2) (sym (plain_at_front c (d ∷ back) (and_left _ _ plain)))
    (when_false (IsBest s.Symbol 2) (opens_star (c ∷ d ∷ back)) (star_extent (c ∷ d ∷ back)) (symbol_extent (c ∷ d ∷ back)) (no_star (begins_symbol c) (eqb c 40 && eqb d 42) plain) (two_symbol c d back some))
symbol_from (c ∷ d ∷ e ∷ front) back plain some = absurd (let k : false ≡ true = plain in cc)

pub symbol_best : (front back : List ℕ) → is_some (symbol_of front) ≡ true → IsBest s.Symbol (length front) (shape_at (front ++ back))
symbol_best front back some = symbol_from front back (symbol_is_plain front some) some
