-- The sign of a whole numeral goes to its magnitude.
use Rattle.std.proofs.Common.{◌≡◌, ℕ, zero, suc, ◌+◌, ◌-◌, ◌*◌, ◌/◌, ◌%◌, ◌<◌, ◌≤◌, ◌⊎◌, inl, inr, Bool, true, false, List, Ok, ℤ, pos, negsuc, refl, sym, ap, ◌∙◌, arith}
use Rattle.std.specs.Prelude.{nat_lt, neg_ℤ}
use Rattle.std.proofs.lemmas.Bool.Decides.{nat_tests}
use Rattle.std.proofs.lemmas.Int.{ints}
use Rattle.common_values.specs.integers.Words.{w16, w32, wrapping_sub, cast_unsigned}
use Rattle.common_values.specs.declared.numerals.Stage.TheVariants as stages
use Rattle.common_values.specs.Numerals.{radix_of, greatest_magnitude, signed}
use Rattle.flat_code.specs.Meaning.{truth}
use Rattle.runtime_proofs.specs.routine_proofs.Activation.{Activation}
use Rattle.runtime_proofs.specs.routine_proofs.Straight.{Onward, straight}
use Rattle.rt_text.specs.numeral_steps.Stages.{numeral_words, stage_words}
use Rattle.rt_text.specs.numeral_steps.Step.{give_sign}
use Rattle.rt_text.specs.numeral_steps.Specifications.{GivesSign, Signs}
use Rattle.rt_text.proofs.numeral_steps.Widening.{straight-widens}

positive : (m : ℕ) → m < 2147483648 → cast_unsigned w32 (pos m) ≡ m
positive m h = grind (arith, nat_tests, ints)

negative : (k : ℕ) → k < 2147483648 → cast_unsigned w32 (negsuc k) ≡ 4294967295 - k
negative k h = grind (arith, nat_tests, ints)

borrow-decided : (l : ℕ) → ((l ≡ 0) × (truth (nat_lt 0 l) ≡ 0)) ⊎ ((0 < l) × (truth (nat_lt 0 l) ≡ 1))
borrow-decided l = grind (arith, nat_tests)

words-so : (l h b v : ℕ) → l < 65536 → ((l ≡ 0) × (b ≡ 0)) ⊎ ((0 < l) × (b ≡ 1)) → ((l + 65536 * h ≡ 0) × (v ≡ 0)) ⊎ ((0 < l + 65536 * h) × (v ≡ 4294967296 - (l + 65536 * h))) → l + 65536 * h ≤ 2147483648 →
    wrapping_sub w16 0 l + 65536 * wrapping_sub w16 (wrapping_sub w16 0 h) b ≡ v
words-so l h b v p (inl q) (inl r) s = omega (arith, p, q.0, q.1, r.0, r.1, s)
words-so l h b v p (inl q) (inr r) s = omega (arith, p, q.0, q.1, r.0, r.1, s)
words-so l h b v p (inr q) (inl r) s = omega (arith, p, q.0, q.1, r.0, r.1, s)
words-so l h b v p (inr q) (inr r) s = omega (arith, p, q.0, q.1, r.0, r.1, s)

negated : (m : ℕ) → m ≤ 2147483648 → ((m ≡ 0) × (cast_unsigned w32 (neg_ℤ (pos m)) ≡ 0)) ⊎ ((0 < m) × (cast_unsigned w32 (neg_ℤ (pos m)) ≡ 4294967296 - m))
negated zero h = inl (refl, refl)
negated (suc k) h = inr (omega arith, negative k (omega (arith, h)) ∙ omega (arith, h))

whole-again : (m : ℕ) → m % 65536 + 65536 * (m / 65536) ≡ m
whole-again m = omega arith

pub signs : Signs
signs false x m byte digit small = record {
  high = m / 65536;
  low = m % 65536;
  low_small = omega arith;
  high_small = omega (arith, small);
  is = whole-again m ∙ sym (positive m (omega (arith, small)));
  does = λ choice own front back e. straight-widens choice own front back give_sign (record e { words = stage_words byte (stages.Digits false x m) digit }) (record { exit = Onward; there = record e { words = numeral_words byte 3 0 (radix_of x) (m / 65536) (m % 65536) digit } }) refl refl;
}
signs true x m byte digit small =
    let l = m % 65536 in
    let h = m / 65536 in
    let low = wrapping_sub w16 0 l in
    let high = wrapping_sub w16 (wrapping_sub w16 0 h) (truth (nat_lt 0 l)) in
    record {
      high = high;
      low = low;
      low_small = omega arith;
      high_small = omega arith;
      is = words-so l h (truth (nat_lt 0 l)) (cast_unsigned w32 (neg_ℤ (pos m))) (omega arith) (borrow-decided l) (again m (negated m small)) (omega (arith, whole-again m, small));
      does = λ choice own front back e. straight-widens choice own front back give_sign (record e { words = stage_words byte (stages.Digits true x m) digit }) (record { exit = Onward; there = record e { words = numeral_words byte 3 1 (radix_of x) high low digit } }) refl refl;
    }
  where
    again : (m : ℕ) → ((m ≡ 0) × (cast_unsigned w32 (neg_ℤ (pos m)) ≡ 0)) ⊎ ((0 < m) × (cast_unsigned w32 (neg_ℤ (pos m)) ≡ 4294967296 - m)) →
        ((m % 65536 + 65536 * (m / 65536) ≡ 0) × (cast_unsigned w32 (neg_ℤ (pos m)) ≡ 0)) ⊎ ((0 < m % 65536 + 65536 * (m / 65536)) × (cast_unsigned w32 (neg_ℤ (pos m)) ≡ 4294967296 - (m % 65536 + 65536 * (m / 65536))))
    again m (inl q) = inl (whole-again m ∙ q.0, q.1)
    again m (inr q) = inr (omega (arith, q.0, whole-again m), q.1 ∙ omega (arith, whole-again m))
