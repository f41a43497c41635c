-- The product of LongInts by those of their words.
use Rattle.std.proofs.Common.{◌≡◌, ℕ, ◌+◌, ◌*◌, ◌/◌, ◌%◌, ◌<◌, sym, ap, ◌∙◌, arith}
use Rattle.std.proofs.Math.Nat.{add-mul, mul-add, mul_assoc, mul_comm}
use Rattle.common_values.specs.integers.Words.{w16, w32, wrapping_add, wrapping_mul, high_product}
use Rattle.flat_code.specs.Runtime.{long_word}

abbrev pub product_low : ℕ → ℕ → ℕ
product_low a c = wrapping_mul w16 a c

abbrev pub product_high : ℕ → ℕ → ℕ → ℕ → ℕ
product_high a b c d = wrapping_add w16 (high_product w16 a c) (wrapping_add w16 (wrapping_mul w16 a d) (wrapping_mul w16 b c))

-- with the four products as numbers of their own
expanded : (p q r s : ℕ) → (p + 65536 * (q + r) + 4294967296 * s) % 4294967296 ≡ p % 65536 + 65536 * ((p / 65536 + (q % 65536 + r % 65536) % 65536) % 65536)
expanded p q r s = omega arith

multiplied : (a b c d : ℕ) → (a + 65536 * b) * (c + 65536 * d) ≡ a * c + 65536 * (a * d + b * c) + 4294967296 * (b * d)
multiplied a b c d =
    let left : a * (c + 65536 * d) ≡ a * c + a * (65536 * d) = mul-add a c (65536 * d) in
    let right : 65536 * b * (c + 65536 * d) ≡ 65536 * b * c + 65536 * b * (65536 * d) = mul-add (65536 * b) c (65536 * d) in
    let across : a * (65536 * d) ≡ 65536 * (a * d) = sym (mul_assoc a 65536 d) ∙ ap (λ (k : ℕ). k * d) (mul_comm a 65536) ∙ mul_assoc 65536 a d in
    let back : 65536 * b * c ≡ 65536 * (b * c) = mul_assoc 65536 b c in
    let inner : b * (65536 * d) ≡ 65536 * (b * d) = sym (mul_assoc b 65536 d) ∙ ap (λ (k : ℕ). k * d) (mul_comm b 65536) ∙ mul_assoc 65536 b d in
    let upper : 65536 * b * (65536 * d) ≡ 65536 * (65536 * (b * d)) = mul_assoc 65536 b (65536 * d) ∙ ap (λ (k : ℕ). 65536 * k) inner in
    add-mul a (65536 * b) (c + 65536 * d) ∙ omega (arith, left, right, across, back, upper)

pub product-is : (a b c d : ℕ) → wrapping_mul w32 (long_word a b) (long_word c d) ≡ product_low a c + 65536 * product_high a b c d
product-is a b c d = ap (λ (n : ℕ). n % 4294967296) (multiplied a b c d) ∙ expanded (a * c) (a * d) (b * c) (b * d)

pub low-small : (a c : ℕ) → product_low a c < 65536
low-small a c = omega arith

pub high-small : (a b c d : ℕ) → product_high a b c d < 65536
high-small a b c d = omega arith
