-- The place behind some bytes, byte by byte.
use Rattle.std.proofs.Common.{◌≡◌, ℕ, ◌+◌, Bool, true, false, cond, not, eqb, List, [], ◌∷◌, ◌++◌, reverse, fold, sym, ap, ◌∙◌, arith, append_assoc, append-nil}
use Rattle.std.specs.Prelude.{count_by, min}
use Rattle.std.specs.List.{prefix_len}
use Rattle.std.proofs.lemmas.List.{reverse-append}
use Rattle.std.proofs.lemmas.List.Sums.{sum_by_push}
use Rattle.type_layout.specs.declared.texts.Place.{Place}
use Rattle.tp_lexer.specs.Places.{counted, column_after, place_after, moved}

reverse_push : (xs : List ℕ) (x : ℕ) → reverse (xs ++ x ∷ []) ≡ x ∷ reverse xs
reverse_push xs x = reverse-append xs (x ∷ [])

raw : (text line column : ℕ) → Place
raw text line column = record { text = text; line = line; column = column }

-- a count that stays at its limit
one_more : (n limit : ℕ) → min (1 + (n + 1)) limit ≡ min (min (1 + n) limit + 1) limit
one_more n limit = omega arith

then_one : (n limit : ℕ) → min (1 + (1 + n)) limit ≡ min (min (1 + n) limit + 1) limit
then_one n limit = omega arith

no_more : (n : ℕ) → 1 + (n + 0) ≡ 1 + n
no_more n = omega arith

pushed : (is_end : Bool) (text count column : ℕ) → raw text (counted (1 + (count + cond is_end 1 0))) (counted (1 + cond (not is_end) (1 + column) 0))
    ≡ cond is_end (raw text (counted (counted (1 + count) + 1)) 1) (raw text (counted (1 + count)) (counted (counted (1 + column) + 1)))
pushed true text count column = ap (λ (line : ℕ). raw text line 1) (one_more count 4294967295)
pushed false text count column =
    ap (λ (line : ℕ). raw text (counted line) (counted (1 + (1 + column)))) (no_more count) ∙ ap (λ (n : ℕ). raw text (counted (1 + count)) n) (then_one column 4294967295)

pub place_after-push : (text : ℕ) (before : List ℕ) (c : ℕ) → place_after text (before ++ c ∷ []) ≡ moved (place_after text before) c
unfolding raw
place_after-push text before c =
    let count = count_by (λ (b : ℕ). eqb b 10) before in
    let column = prefix_len (λ (b : ℕ). not (eqb b 10)) (reverse before) in
    ap (λ (n : ℕ). raw (counted text) (counted (1 + n)) (counted (column_after (before ++ c ∷ [])))) (sum_by_push (λ (b : ℕ). cond (eqb b 10) 1 0) before c)
    ∙ ap (λ (xs : List ℕ). raw (counted text) (counted (1 + (count + cond (eqb c 10) 1 0))) (counted (1 + prefix_len (λ (b : ℕ). not (eqb b 10)) xs))) (reverse_push before c)
    ∙ pushed (eqb c 10) (counted text) count column

pub place_after-append : (text : ℕ) (before bytes : List ℕ) → fold moved (place_after text before) bytes ≡ place_after text (before ++ bytes)
place_after-append text before [] = ap (place_after text) (sym (append-nil before))
place_after-append text before (c ∷ cs) = ap (λ (place : Place). fold moved place cs) (sym (place_after-push text before c)) ∙ place_after-append text (before ++ c ∷ []) cs ∙ ap (place_after text) (append_assoc before (c ∷ []) cs)
