-- The text that has room in a variable, by its blanks and the bytes behind them.
use Rattle.std.proofs.Common.{◌≡◌, ℕ, zero, suc, ◌-◌, ◌+◌, List, [], ◌∷◌, ◌++◌, length, take, refl, sym, ap, ◌∙◌, arith}
use Rattle.std.specs.Prelude.{min, replicate}
use Rattle.common_values.specs.integers.Words.{w16, cast_signed}
use Rattle.common_values.specs.Written.{blanks_due, str_text}

take-none : (k : ℕ) → take {A = ℕ} k [] ≡ []
take-none zero = refl
take-none (suc k) = refl

take-all : (k : ℕ) (xs : List ℕ) → take k xs ≡ take (min k (length xs)) xs
take-all zero xs = let nought : 0 ≡ min 0 (length xs) = omega arith in ap (λ j. take j xs) nought
take-all (suc k) [] = take-none (suc k) ∙ sym (take-none (min (suc k) 0))
take-all (suc k) (x ∷ xs) =
    let more : suc (min k (length xs)) ≡ min (suc k) (suc (length xs)) = omega arith in
    ap (λ t. x ∷ t) (take-all k xs) ∙ ap (λ j. take j (x ∷ xs)) more

-- so many blanks and so many bytes of a text
abbrev pub parts : ℕ → ℕ → List ℕ → List ℕ
parts b r text = replicate b 32 ++ take r text

parts-same : (b c r s : ℕ) (text : List ℕ) → b ≡ c → r ≡ s → parts b r text ≡ parts c s text
parts-same b c r s text p q = ap (λ x. parts x r text) p ∙ ap (λ x. parts c x text) q

pub room-text : (size due : ℕ) (text : List ℕ) → take size (replicate due 32 ++ text) ≡ parts (min due size) (min (size - min due size) (length text)) text
room-text size zero text = take-all size text ∙ parts-same 0 (min 0 size) (min size (length text)) (min (size - min 0 size) (length text)) text (omega arith) (omega arith)
room-text zero (suc due) text = parts-same 0 (min (suc due) 0) 0 (min (0 - min (suc due) 0) (length text)) text (omega arith) (omega arith)
room-text (suc size) (suc due) text =
    ap (λ t. 32 ∷ t) (room-text size due text)
    ∙ parts-same (suc (min due size)) (min (suc due) (suc size)) (min (size - min due size) (length text)) (min (suc size - min (suc due) (suc size)) (length text)) text (omega arith) (omega arith)

-- what Str gives a variable
pub str-parts : (size w : ℕ) (text : List ℕ) → str_text size (cast_signed w16 w) text ≡ parts (min (blanks_due (cast_signed w16 w) (length text)) size) (min (size - min (blanks_due (cast_signed w16 w) (length text)) size) (length text)) text
str-parts size w text = room-text size (blanks_due (cast_signed w16 w) (length text)) text
