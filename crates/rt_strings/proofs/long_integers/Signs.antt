-- Quotients and remainders of signed numbers by their magnitudes.
use Rattle.std.proofs.Common.{◌≡◌, ℕ, zero, suc, ◌+◌, ◌-◌, ◌*◌, ◌/◌, ◌%◌, ◌<◌, ◌≤◌, ◌⊎◌, inl, inr, ℤ, pos, negsuc, refl, sym, ap, ◌∙◌, arith}
use Rattle.std.specs.Prelude.{neg_ℤ, bit_xor}
use Rattle.std.specs.Int.{cast_unsigned}
use Rattle.std.specs.Int.RustNames.{int_div, int_rem}
use Rattle.std.proofs.lemmas.Bool.Decides.{nat_tests}
use Rattle.std.proofs.lemmas.Int.{ints}
use Rattle.std.proofs.Math.Nat.{div-le_self, mod-le}
use Rattle.common_values.specs.integers.Words.{w16, w32, wrapping_sub, cast_signed, signed_quotient, signed_remainder, is_signed_less}
use Rattle.flat_code.specs.Meaning.{truth}

-- a word of 32 bits, its magnitude, and 1 where it is negative
abbrev pub HasMagnitude : ℕ → ℕ → ℕ → Type 0
HasMagnitude x size negative = ((x < 2147483648) × (size ≡ x) × (negative ≡ 0)) ⊎ ((2147483648 ≤ x) × (size ≡ 4294967296 - x) × (negative ≡ 1))

signed-so : (x : ℕ) → x < 2147483648 → cast_signed w32 x ≡ pos x
signed-so x h = grind (arith, nat_tests, ints)

signed-negative : (x n : ℕ) → 2147483648 ≤ x → x < 4294967296 → 4294967296 - x ≡ suc n → cast_signed w32 x ≡ negsuc n
signed-negative x n h l e = grind (arith, nat_tests, ints)

-- the word of a number with the other sign
minus : (n : ℕ) → n < 4294967296 → cast_unsigned w32 (neg_ℤ (pos n)) ≡ wrapping_sub w32 0 n
minus zero h = refl
minus (suc n) h = omega (arith, h)

-- a magnitude with a sign
abbrev pub IsSigned : ℕ → ℕ → ℕ → Type 0
IsSigned negative size x = ((negative ≡ 0) × (x ≡ size)) ⊎ ((negative ≡ 1) × (x ≡ wrapping_sub w32 0 size))

-- one less than a magnitude that is not 0
before : (x : ℕ) → x < 4294967296 → 4294967296 - x ≡ suc (4294967296 - x - 1)
before x h = omega (arith, h)

quotient-of : (x y : ℕ) (v w : ℤ) → cast_signed w32 x ≡ v → cast_signed w32 y ≡ w → signed_quotient w32 x y ≡ cast_unsigned w32 (int_div v w)
quotient-of x y v w p q = ap (λ z. cast_unsigned w32 (int_div z (cast_signed w32 y))) p ∙ ap (λ z. cast_unsigned w32 (int_div v z)) q

remainder-of : (x y : ℕ) (v w : ℤ) → cast_signed w32 x ≡ v → cast_signed w32 y ≡ w → signed_remainder w32 x y ≡ cast_unsigned w32 (int_rem v w)
remainder-of x y v w p q = ap (λ z. cast_unsigned w32 (int_rem z (cast_signed w32 y))) p ∙ ap (λ z. cast_unsigned w32 (int_rem v z)) q

div-small : (m n : ℕ) → m ≤ 2147483648 → m / n < 4294967296
div-small m n h = omega (arith, h, div-le_self m n)

mod-small : (m n : ℕ) → m ≤ 2147483648 → m % n < 4294967296
mod-small m n h = omega (arith, h, mod-le m n)

module _ (x y : ℕ) (x_long : x < 4294967296) (y_long : y < 4294967296) where
  abbrev far : ℕ → ℕ
  far n = 4294967296 - n

  pub quotient-signed : (m n p q : ℕ) → HasMagnitude x m p → HasMagnitude y n q → IsSigned (bit_xor p q) (m / n) (signed_quotient w32 x y)
  quotient-signed m n p q (inl h) (inl k) =
      let e = quotient-of x y (pos x) (pos y) (signed-so x h.0) (signed-so y k.0) in
      inl (ap (λ b. bit_xor b q) h.2 ∙ ap (bit_xor 0) k.2, e ∙ sym (ap (λ a. a / n) h.1 ∙ ap (λ b. x / b) k.1))
  quotient-signed m n p q (inl h) (inr k) =
      let e = quotient-of x y (pos x) (negsuc (far y - 1)) (signed-so x h.0) (signed-negative y (far y - 1) k.0 y_long (before y y_long)) in
      inr (
        ap (λ b. bit_xor b q) h.2 ∙ ap (bit_xor 0) k.2,
        e ∙ minus (x / suc (far y - 1)) (div-small x (suc (far y - 1)) (omega (arith, h.0)))
            ∙ ap (λ b. wrapping_sub w32 0 (x / b)) (sym (before y y_long)) ∙ ap (wrapping_sub w32 0) (sym (ap (λ a. a / n) h.1 ∙ ap (λ b. x / b) k.1)),
      )
  quotient-signed m n p q (inr h) (inl k) =
      let e = quotient-of x y (negsuc (far x - 1)) (pos y) (signed-negative x (far x - 1) h.0 x_long (before x x_long)) (signed-so y k.0) in
      inr (
        ap (λ b. bit_xor b q) h.2 ∙ ap (bit_xor 1) k.2,
        e ∙ minus (suc (far x - 1) / y) (div-small (suc (far x - 1)) y (omega (arith, h.0, x_long)))
            ∙ ap (λ b. wrapping_sub w32 0 (b / y)) (sym (before x x_long)) ∙ ap (wrapping_sub w32 0) (sym (ap (λ a. a / n) h.1 ∙ ap (λ b. far x / b) k.1)),
      )
  quotient-signed m n p q (inr h) (inr k) =
      let e = quotient-of x y (negsuc (far x - 1)) (negsuc (far y - 1)) (signed-negative x (far x - 1) h.0 x_long (before x x_long)) (signed-negative y (far y - 1) k.0 y_long (before y y_long)) in
      inl (
        ap (λ b. bit_xor b q) h.2 ∙ ap (bit_xor 1) k.2,
        e ∙ ap (λ b. b / suc (far y - 1)) (sym (before x x_long)) ∙ ap (λ b. far x / b) (sym (before y y_long)) ∙ sym (ap (λ a. a / n) h.1 ∙ ap (λ b. far x / b) k.1),
      )

  -- the remainder has the sign of the dividend
  pub remainder-signed : (m n p q : ℕ) → HasMagnitude x m p → HasMagnitude y n q → IsSigned p (m % n) (signed_remainder w32 x y)
  remainder-signed m n p q (inl h) (inl k) =
      let e = remainder-of x y (pos x) (pos y) (signed-so x h.0) (signed-so y k.0) in
      inl (h.2, e ∙ sym (ap (λ a. a % n) h.1 ∙ ap (λ b. x % b) k.1))
  remainder-signed m n p q (inl h) (inr k) =
      let e = remainder-of x y (pos x) (negsuc (far y - 1)) (signed-so x h.0) (signed-negative y (far y - 1) k.0 y_long (before y y_long)) in
      inl (h.2, e ∙ ap (λ b. x % b) (sym (before y y_long)) ∙ sym (ap (λ a. a % n) h.1 ∙ ap (λ b. x % b) k.1))
  remainder-signed m n p q (inr h) (inl k) =
      let e = remainder-of x y (negsuc (far x - 1)) (pos y) (signed-negative x (far x - 1) h.0 x_long (before x x_long)) (signed-so y k.0) in
      inr (
        h.2,
        e ∙ minus (suc (far x - 1) % y) (mod-small (suc (far x - 1)) y (omega (arith, h.0, x_long)))
            ∙ ap (λ b. wrapping_sub w32 0 (b % y)) (sym (before x x_long)) ∙ ap (wrapping_sub w32 0) (sym (ap (λ a. a % n) h.1 ∙ ap (λ b. far x % b) k.1)),
      )
  remainder-signed m n p q (inr h) (inr k) =
      let e = remainder-of x y (negsuc (far x - 1)) (negsuc (far y - 1)) (signed-negative x (far x - 1) h.0 x_long (before x x_long)) (signed-negative y (far y - 1) k.0 y_long (before y y_long)) in
      inr (
        h.2,
        e ∙ minus (suc (far x - 1) % suc (far y - 1)) (mod-small (suc (far x - 1)) (suc (far y - 1)) (omega (arith, h.0, x_long)))
            ∙ ap (λ b. wrapping_sub w32 0 (b % suc (far y - 1))) (sym (before x x_long)) ∙ ap (λ b. wrapping_sub w32 0 (far x % b)) (sym (before y y_long)) ∙ ap (wrapping_sub w32 0) (sym (ap (λ a. a % n) h.1 ∙ ap (λ b. far x % b) k.1)),
      )

-- by the sign of the upper word
pub upper-negative : (low high : ℕ) → low < 65536 → high < 65536 → ((low + 65536 * high < 2147483648) × (truth (is_signed_less w16 high 0) ≡ 0)) ⊎ ((2147483648 ≤ low + 65536 * high) × (truth (is_signed_less w16 high 0) ≡ 1))
upper-negative low high p q = grind (arith, nat_tests, ints)
