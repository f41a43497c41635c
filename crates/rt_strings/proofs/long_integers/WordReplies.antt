-- The routines that are straight code without tests.
use Rattle.std.proofs.Common.{◌≡◌, ℕ, ◌+◌, ◌*◌, ◌<◌, ◌⊎◌, inl, inr, List, Ok, Bool, true, false, refl, sym, ap, ◌∙◌, arith}
use Rattle.std.specs.Prelude.{nat_lt, ◌==◌, ◌&&◌, bit_and}
use Rattle.std.proofs.lemmas.Bool.Decides.{nat_tests}
use Rattle.common_values.specs.integers.Words.{w16, w32, wrapping_add, wrapping_sub}
use Rattle.flat_code.specs.Memory.{Found, word_bytes}
use Rattle.flat_code.specs.Meaning.{Frame, State, truth}
use Rattle.flat_code.specs.Runtime.{negation_of, negation_routine, product_of, less_of}
use Rattle.flat_code.specs.Program.{FlatProgram, Choice}
use Rattle.flat_code.specs.Gives.{AreWords}
use Rattle.runtime_proofs.specs.routine_proofs.Activation.{IsPlaced}
use Rattle.runtime_proofs.specs.routine_proofs.Straight.{Onward}
use Rattle.runtime_proofs.specs.routine_proofs.Entry.{entered}
use Rattle.runtime_proofs.specs.routine_proofs.Specifications.{Replies}
use Rattle.runtime_proofs.proofs.routine_proofs.Replies.{answers-straight, two-words, four-words}
use Rattle.rt_strings.specs.long_integers.Routines.{product_routine, less_routine, sum_routine, difference_routine, equal_routine}
use Rattle.rt_strings.specs.long_integers.Numbers.{sum_of, difference_of, equal_of}
use Rattle.rt_strings.proofs.long_integers.Bytes.{long-bytes}
use Rattle.rt_strings.proofs.long_integers.Products.{product_low, product_high, product-is, low-small, high-small}
use Rattle.rt_strings.proofs.long_integers.Comparing.{less-is}

one-or-none : (a b : ℕ) → ((a < b) × (truth (nat_lt a b) ≡ 1)) ⊎ ((b < a + 1) × (truth (nat_lt a b) ≡ 0))
one-or-none a b = grind (arith, nat_tests)

summed : (a b c d : ℕ) → a < 65536 → b < 65536 → c < 65536 → d < 65536 → wrapping_add w16 a c + 65536 * wrapping_add w16 (wrapping_add w16 b d) (truth (nat_lt (wrapping_add w16 a c) a)) ≡ wrapping_add w32 (a + 65536 * b) (c + 65536 * d)
summed a b c d p q r s = elim (one-or-none (wrapping_add w16 a c) a) [ inl h ↦ omega (arith, h, p, q, r, s) | inr h ↦ omega (arith, h, p, q, r, s) ]

pub subtracted : (a b c d : ℕ) → a < 65536 → b < 65536 → c < 65536 → d < 65536 → wrapping_sub w16 a c + 65536 * wrapping_sub w16 (wrapping_sub w16 b d) (truth (nat_lt a c)) ≡ wrapping_sub w32 (a + 65536 * b) (c + 65536 * d)
subtracted a b c d p q r s = elim (one-or-none a c) [ inl h ↦ omega (arith, h, p, q, r, s) | inr h ↦ omega (arith, h, p, q, r, s) ]

pub both : (p q : Bool) → bit_and (truth p) (truth q) ≡ truth (p && q)
both true true = refl
both true false = refl
both false true = refl
both false false = refl

same-words : (a b c d : ℕ) → a < 65536 → b < 65536 → c < 65536 → d < 65536 → ((b == d) && (a == c)) ≡ (a + 65536 * b == c + 65536 * d)
same-words a b c d p q r s = grind (arith, nat_tests)

pub negated : (low high : ℕ) → low < 65536 → high < 65536 → wrapping_sub w16 0 low + 65536 * wrapping_sub w16 (wrapping_sub w16 0 high) (truth (nat_lt 0 low)) ≡ wrapping_sub w32 0 (low + 65536 * high)
negated low high p q = elim (one-or-none 0 low) [ inl h ↦ omega (arith, h, p, q) | inr h ↦ omega (arith, h, p, q) ]

-- ---- the routines

module _ (program : FlatProgram) (choice : Choice) (own : Frame) (sp : ℕ) (s : State) where
  pub negation-replies : IsPlaced choice own sp 10 → (args : List ℕ) → AreWords 2 args → Replies program choice own sp negation_routine 0 64 (entered choice sp 4 args s) (negation_of args)
  negation-replies placed = two-words (λ args. Replies program choice own sp negation_routine 0 64 (entered choice sp 4 args s) (negation_of args)) (λ a b p q.
      answers-straight program choice own sp negation_routine 0 64 _ Onward _ _ placed refl tt
      (long-bytes (wrapping_sub w16 0 a) (wrapping_sub w16 (wrapping_sub w16 0 b) (truth (nat_lt 0 a))) _ (omega arith) (omega arith) (negated a b p q))
      (record { memory = refl; flag = refl; input = refl; out = refl; err = refl }) (omega arith))

  module _ (placed : IsPlaced choice own sp 14) where
    pub sum-replies : (args : List ℕ) → AreWords 4 args → Replies program choice own sp sum_routine 0 64 (entered choice sp 4 args s) (sum_of args)
    sum-replies = four-words (λ args. Replies program choice own sp sum_routine 0 64 (entered choice sp 4 args s) (sum_of args)) (λ a b c d p q r t.
        answers-straight program choice own sp sum_routine 0 64 _ Onward _ _ placed refl tt
        (long-bytes (wrapping_add w16 a c) (wrapping_add w16 (wrapping_add w16 b d) (truth (nat_lt (wrapping_add w16 a c) a))) _ (omega arith) (omega arith) (summed a b c d p q r t))
        (record { memory = refl; flag = refl; input = refl; out = refl; err = refl }) (omega arith))

    pub difference-replies : (args : List ℕ) → AreWords 4 args → Replies program choice own sp difference_routine 0 64 (entered choice sp 4 args s) (difference_of args)
    difference-replies = four-words (λ args. Replies program choice own sp difference_routine 0 64 (entered choice sp 4 args s) (difference_of args)) (λ a b c d p q r t.
        answers-straight program choice own sp difference_routine 0 64 _ Onward _ _ placed refl tt
        (long-bytes (wrapping_sub w16 a c) (wrapping_sub w16 (wrapping_sub w16 b d) (truth (nat_lt a c))) _ (omega arith) (omega arith) (subtracted a b c d p q r t))
        (record { memory = refl; flag = refl; input = refl; out = refl; err = refl }) (omega arith))

    pub product-replies : (args : List ℕ) → AreWords 4 args → Replies program choice own sp product_routine 0 64 (entered choice sp 4 args s) (product_of args)
    product-replies = four-words (λ args. Replies program choice own sp product_routine 0 64 (entered choice sp 4 args s) (product_of args)) (λ a b c d p q r t.
        answers-straight program choice own sp product_routine 0 64 _ Onward _ _ placed refl tt
        (long-bytes (product_low a c) (product_high a b c d) _ (low-small a c) (high-small a b c d) (sym (product-is a b c d)))
        (record { memory = refl; flag = refl; input = refl; out = refl; err = refl }) (omega arith))

    pub equal-replies : (args : List ℕ) → AreWords 4 args → Replies program choice own sp equal_routine 0 64 (entered choice sp 2 args s) (equal_of args)
    equal-replies = four-words (λ args. Replies program choice own sp equal_routine 0 64 (entered choice sp 2 args s) (equal_of args)) (λ a b c d p q r t.
        answers-straight program choice own sp equal_routine 0 64 _ Onward _ _ placed refl tt
        (ap (λ n. let r : Found (List ℕ) = Ok (word_bytes n) in r) (both (b == d) (a == c) ∙ ap truth (same-words a b c d p q r t)))
        (record { memory = refl; flag = refl; input = refl; out = refl; err = refl }) (omega arith))

    pub less-replies : (args : List ℕ) → AreWords 4 args → Replies program choice own sp less_routine 0 64 (entered choice sp 2 args s) (less_of args)
    less-replies = four-words (λ args. Replies program choice own sp less_routine 0 64 (entered choice sp 2 args s) (less_of args)) (λ a b c d p q r t.
        answers-straight program choice own sp less_routine 0 64 _ Onward _ _ placed refl tt
        (ap (λ n. let r : Found (List ℕ) = Ok (word_bytes n) in r) (less-is a b c d p q r t))
        (record { memory = refl; flag = refl; input = refl; out = refl; err = refl }) (omega arith))
