-- How many blanks are due, by the word of a width.
use Rattle.std.proofs.Common.{◌≡◌, ℕ, suc, ◌-◌, ◌<◌, ◌≤◌, ◌⊎◌, inl, inr, pos, negsuc, sym, ap, ◌∙◌, arith}
use Rattle.std.proofs.lemmas.Bool.{cases_lt}
use Rattle.std.proofs.lemmas.Bool.Decides.{nat_tests}
use Rattle.std.proofs.lemmas.Int.{ints}
use Rattle.common_values.specs.integers.Words.{w16, wrapping_sub, cast_signed, is_signed_less}
use Rattle.common_values.specs.Strings.{byte_count}
use Rattle.common_values.specs.Written.{blanks_due}
use Rattle.flat_code.specs.Meaning.{truth}

positive16 : (x : ℕ) → x < 32768 → cast_signed w16 x ≡ pos x
positive16 x h = grind (arith, nat_tests, ints)

negative16 : (x n : ℕ) → 32768 ≤ x → x < 65536 → 65536 - x ≡ suc n → cast_signed w16 x ≡ negsuc n
negative16 x n h l e = grind (arith, nat_tests, ints)

below-decided : (n w : ℕ) → n < 256 → w < 32768 → ((n < w) × (truth (is_signed_less w16 n w) ≡ 1)) ⊎ ((w ≤ n) × (truth (is_signed_less w16 n w) ≡ 0))
below-decided n w p q = grind (arith, nat_tests, ints)

never-below : (n w : ℕ) → n < 256 → 32768 ≤ w → w < 65536 → truth (is_signed_less w16 n w) ≡ 0
never-below n w p q r = grind (arith, nat_tests, ints)

word-decided : (w : ℕ) → (w < 32768) ⊎ (32768 ≤ w)
word-decided w = cases_lt w 32768

-- how many blanks are due, by a word
pub due-decided : (n w : ℕ) → n < 256 → w < 65536 → ((truth (is_signed_less w16 n w) ≡ 1) × (wrapping_sub w16 w n ≡ blanks_due (cast_signed w16 w) n)) ⊎ ((truth (is_signed_less w16 n w) ≡ 0) × (0 ≡ blanks_due (cast_signed w16 w) n))
due-decided n w p q = elim (word-decided w) [
  | inl h ↦ elim (below-decided n w p h) [
    | inl k ↦ inl (k.1, off w n (omega (arith, k.0)) q ∙ sym (ap (λ z. byte_count z - n) (positive16 w h)))
    | inr k ↦ inr (k.1, none w n k.0 ∙ sym (ap (λ z. byte_count z - n) (positive16 w h)))
  ]
  | inr h ↦ inr (never-below n w p h q, nothing n ∙ sym (ap (λ z. byte_count z - n) (negative16 w (65536 - w - 1) h q (omega (arith, h, q)))))
]
  where
    off : (w n : ℕ) → n ≤ w → w < 65536 → wrapping_sub w16 w n ≡ w - n
    off w n h q = omega (arith, h, q)

    none : (w n : ℕ) → w ≤ n → 0 ≡ w - n
    none w n h = omega (arith, h)

    nothing : (n : ℕ) → 0 ≡ 0 - n
    nothing n = omega arith
