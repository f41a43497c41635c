-- What a number takes of an input, byte by byte, and where its numeral stands then.
use Rattle.std.proofs.Common.{◌≡◌, ℕ, suc, ◌+◌, ◌≤◌, Bool, true, false, cond, List, [], ◌∷◌, length, take, drop, Option, Some, None, Err, ℤ, refl, sym, ap, subst, ◌∙◌, arith}
use Rattle.std.specs.Prelude.{◌==◌, ◌||◌, not, bit_or}
use Rattle.std.specs.List.{prefix_len}
use Rattle.std.specs.Option.{ok_or, option_map_or}
use Rattle.std.specs.Result.{result_ok}
use Rattle.common_values.specs.declared.numerals.Stage.{Stage}
use Rattle.common_values.specs.declared.numerals.Stage.TheVariants as stages
use Rattle.common_values.specs.Numerals.{next_stage, value_at, IsBounded, numeral_from, numeral_of}
use Rattle.common_values.specs.Input.{is_separator, is_word_byte, after_separators, number_of, word_length, word_read}
use Rattle.common_values.proofs.NumeralLemmas.{next_bounded}
use Rattle.flat_code.specs.Meaning.{truth}
use Rattle.rt_text.proofs.numeral_steps.Digits.{or-bits}

-- ---- tests of a byte

pub separator-bits : (b : ℕ) → bit_or (bit_or (truth (b == 32)) (truth (b == 9))) (bit_or (truth (b == 13)) (truth (b == 10))) ≡ truth (is_separator b)
separator-bits b =
    ap (λ v. bit_or v (bit_or (truth (b == 13)) (truth (b == 10)))) (or-bits (b == 32) (b == 9))
    ∙ ap (λ v. bit_or (truth ((b == 32) || (b == 9))) v) (or-bits (b == 13) (b == 10))
    ∙ or-bits ((b == 32) || (b == 9)) ((b == 13) || (b == 10))

-- the byte ends a word
abbrev pub ends_word : ℕ → Bool
ends_word b = is_separator b || (b == 26)

pub word-bits : (b : ℕ) → bit_or (bit_or (bit_or (truth (b == 32)) (truth (b == 9))) (bit_or (truth (b == 13)) (truth (b == 10)))) (truth (b == 26)) ≡ truth (ends_word b)
word-bits b = ap (λ v. bit_or v (truth (b == 26))) (separator-bits b) ∙ or-bits (is_separator b) (b == 26)

-- ---- separators

pub gap-more : (b : ℕ) (rest : List ℕ) → is_separator b ≡ true → after_separators (b ∷ rest) ≡ after_separators rest
gap-more b rest e =
    let next : 1 + prefix_len is_separator rest ≡ suc (prefix_len is_separator rest) = omega arith in
    ap (λ t. drop (cond t (1 + prefix_len is_separator rest) 0) (b ∷ rest)) e ∙ ap (λ k. drop k (b ∷ rest)) next

pub gap-none : (b : ℕ) (rest : List ℕ) → is_separator b ≡ false → after_separators (b ∷ rest) ≡ b ∷ rest
gap-none b rest e = ap (λ t. drop (cond t (1 + prefix_len is_separator rest) 0) (b ∷ rest)) e

-- ---- a word

abbrev pub word_of : List ℕ → List ℕ
word_of [] = []
word_of (b ∷ rest) = cond (ends_word b) [] (b ∷ word_of rest)

abbrev pub behind_word : List ℕ → List ℕ
behind_word [] = []
behind_word (b ∷ rest) = cond (ends_word b) (b ∷ rest) (behind_word rest)

length-ended : (b : ℕ) (rest : List ℕ) → ends_word b ≡ true → word_length (b ∷ rest) ≡ 0
length-ended b rest e = ap (λ t. cond (not t) (1 + prefix_len is_word_byte rest) 0) e

length-more : (b : ℕ) (rest : List ℕ) → ends_word b ≡ false → word_length (b ∷ rest) ≡ suc (word_length rest)
length-more b rest e = let next : 1 + word_length rest ≡ suc (word_length rest) = omega arith in ap (λ t. cond (not t) (1 + prefix_len is_word_byte rest) 0) e ∙ next

pub word-is : (left : List ℕ) → word_of left ≡ (word_read left).0
word-is [] = refl
word-is (b ∷ rest) = by (ends_word b) refl (word-is rest)
  where
    by : (t : Bool) → ends_word b ≡ t → word_of rest ≡ (word_read rest).0 → cond (ends_word b) [] (b ∷ word_of rest) ≡ take (word_length (b ∷ rest)) (b ∷ rest)
    by true e h = ap (λ t. cond t [] (b ∷ word_of rest)) e ∙ sym (ap (λ n. take n (b ∷ rest)) (length-ended b rest e))
    by false e h = ap (λ t. cond t [] (b ∷ word_of rest)) e ∙ ap (λ l. b ∷ l) h ∙ sym (ap (λ n. take n (b ∷ rest)) (length-more b rest e))

pub rest-is : (left : List ℕ) → behind_word left ≡ (word_read left).1
rest-is [] = refl
rest-is (b ∷ rest) = by (ends_word b) refl (rest-is rest)
  where
    by : (t : Bool) → ends_word b ≡ t → behind_word rest ≡ (word_read rest).1 → cond (ends_word b) (b ∷ rest) (behind_word rest) ≡ drop (word_length (b ∷ rest)) (b ∷ rest)
    by true e h = ap (λ t. cond t (b ∷ rest) (behind_word rest)) e ∙ sym (ap (λ n. drop n (b ∷ rest)) (length-ended b rest e))
    by false e h = ap (λ t. cond t (b ∷ rest) (behind_word rest)) e ∙ h ∙ sym (ap (λ n. drop n (b ∷ rest)) (length-more b rest e))

pub behind-shorter : (left : List ℕ) → length (behind_word left) ≤ length left
behind-shorter [] = omega arith
behind-shorter (b ∷ rest) = by (ends_word b) refl (behind-shorter rest)
  where
    by : (t : Bool) → ends_word b ≡ t → length (behind_word rest) ≤ length rest → length (cond (ends_word b) (b ∷ rest) (behind_word rest)) ≤ suc (length rest)
    by true e h = subst (λ l. length l ≤ suc (length rest)) (sym (ap (λ t. cond t (b ∷ rest) (behind_word rest)) e)) (omega arith)
    by false e h = subst (λ l. length l ≤ suc (length rest)) (sym (ap (λ t. cond t (b ∷ rest) (behind_word rest)) e)) (omega (arith, h))

-- ---- where the numeral stands behind a word; None where no numeral went on

abbrev pub next_of_stage : Option Stage → ℕ → Option Stage
next_of_stage None b = None
next_of_stage (Some stage) b = next_stage stage b

abbrev pub stage_behind : Option Stage → List ℕ → Option Stage
stage_behind o [] = o
stage_behind o (b ∷ word) = stage_behind (next_of_stage o b) word

abbrev pub value_behind : Option Stage → Option ℤ
value_behind None = None
value_behind (Some stage) = value_at stage

abbrev pub BoundedStage : Option Stage → Type 0
BoundedStage None = Unit {0}
BoundedStage (Some stage) = IsBounded stage

pub stays-bounded : (o : Option Stage) (b : ℕ) → BoundedStage (next_of_stage o b)
stays-bounded None b = tt
stays-bounded (Some stage) b = by (next_stage stage b) refl
  where
    by : (next : Option Stage) → next_stage stage b ≡ next → BoundedStage next
    by None e = tt
    by (Some next) e = next_bounded stage next b e

none-stays : (word : List ℕ) → stage_behind None word ≡ None
none-stays [] = refl
none-stays (b ∷ word) = none-stays word

some-value : (stage : Stage) (q : ℕ) → result_ok (ok_or (value_at stage) q) ≡ value_at stage
some-value stages.Start q = refl
some-value (stages.Signed n) q = refl
some-value (stages.Dollar n) q = refl
some-value (stages.Digits n x m) q = refl

value-from : (word : List ℕ) (stage : Stage) (q : ℕ) → result_ok (numeral_from stage q word) ≡ value_behind (stage_behind (Some stage) word)
value-from [] stage q = some-value stage q
value-from (b ∷ word) stage q = by (next_stage stage b) (λ next. value-from word next (q + 1))
  where
    by : (o : Option Stage) → ((next : Stage) → result_ok (numeral_from next (q + 1) word) ≡ value_behind (stage_behind (Some next) word)) → result_ok (option_map_or (λ next. numeral_from next (q + 1) word) o (Err q)) ≡ value_behind (stage_behind o word)
    by None again = sym (ap value_behind (none-stays word))
    by (Some next) again = again next

pub value-is : (b : ℕ) (word : List ℕ) → number_of (b ∷ word) ≡ value_behind (stage_behind (Some stages.Start) (b ∷ word))
unfolding numeral_of
value-is b word = value-from (b ∷ word) stages.Start 1
