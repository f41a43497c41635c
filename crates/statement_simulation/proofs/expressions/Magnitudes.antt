-- Signed quotients and remainders of words by their magnitudes.
use Rattle.std.proofs.Common.{◌≡◌, ℕ, zero, suc, ◌-◌, ◌/◌, ◌%◌, ◌<◌, ◌≤◌, Bool, true, false, not, arith, sym, ap, ◌∙◌, div-le_self, ⊎_elim}
use Rattle.std.specs.Prelude.{if◌then◌else◌, nat_le, ℤ, pos, negsuc, neg_ℤ}
use Rattle.std.proofs.lemmas.Bool.{cases_lt, le-ltb, lt-leb, le-leb}
use Rattle.std.proofs.Math.Nat.{mod-le}
use Rattle.std.proofs.lemmas.Int.{ints}
use Rattle.std.specs.Int.RustNames.{int_div, int_rem}
use Rattle.common_values.specs.integers.Words.{w16, cast_signed, cast_unsigned, signed_quotient, signed_remainder}

-- the sign bit of a word
abbrev pub sign : ℕ → Bool
sign v = nat_le 32768 v

-- the negative of a word where that is wanted
abbrev pub negated : Bool → ℕ → ℕ
negated true v = (131072 - v) % 65536
negated false v = v

abbrev pub magnitude : ℕ → ℕ
magnitude v = negated (sign v) v

-- one sign or the other
abbrev pub turned : Bool → Bool → Bool
turned true b = not b
turned false b = b

signed_low : (v : ℕ) → v < 32768 → cast_signed w16 v ≡ pos v
signed_low v h = omega (arith, ints)

signed_high : (v a : ℕ) → 32768 ≤ v → v < 65536 → suc a ≡ 65536 - v → cast_signed w16 v ≡ negsuc a
signed_high v a h g e = let m : 65536 - suc v ≡ a = omega arith in ap (λ b. if b then pos v else negsuc (65536 - suc v)) (le-ltb v 32768 h) ∙ ap negsuc m

unsigned_pos : (n : ℕ) → n < 65536 → cast_unsigned w16 (pos n) ≡ n
unsigned_pos n h = omega arith

unsigned_neg : (n : ℕ) → n < 65536 → cast_unsigned w16 (neg_ℤ (pos n)) ≡ (131072 - n) % 65536
unsigned_neg zero h = omega arith
unsigned_neg (suc n) h = omega arith

sign_low : (v : ℕ) → v < 32768 → sign v ≡ false
sign_low v h = lt-leb 32768 v h

sign_high : (v : ℕ) → 32768 ≤ v → sign v ≡ true
sign_high v h = le-leb 32768 v h

magnitude_low : (v : ℕ) → v < 32768 → magnitude v ≡ v
magnitude_low v h = ap (λ b. negated b v) (sign_low v h)

magnitude_high : (v : ℕ) → 32768 ≤ v → v < 65536 → magnitude v ≡ 65536 - v
magnitude_high v h g = ap (λ b. negated b v) (sign_high v h) ∙ (omega arith)

-- ## By cases on the signs

-- what is said of a division, by the divisor's predecessor
abbrev IsQuotient : ℕ → ℕ → Type 0
IsQuotient x y = signed_quotient w16 x y ≡ negated (turned (sign x) (sign y)) (magnitude x / magnitude y)

abbrev IsRemainder : ℕ → ℕ → Type 0
IsRemainder x y = signed_remainder w16 x y ≡ negated (sign x) (magnitude x % magnitude y)

signs : (x y : ℕ) (a b : Bool) → sign x ≡ a → sign y ≡ b → (n m q : ℕ) → magnitude x ≡ n → magnitude y ≡ m → negated (turned (sign x) (sign y)) (magnitude x / magnitude y) ≡ negated (turned a b) (n / m)
signs x y a b e f n m q g h = ap (λ s. negated (turned s (sign y)) (magnitude x / magnitude y)) e ∙ ap (λ s. negated (turned a s) (magnitude x / magnitude y)) f ∙ ap (λ k. negated (turned a b) (k / magnitude y)) g ∙ ap (λ k. negated (turned a b) (n / k)) h

quotient_of : (x y : ℕ) (s t : ℤ) → cast_signed w16 x ≡ s → cast_signed w16 y ≡ t → signed_quotient w16 x y ≡ cast_unsigned w16 (int_div s t)
quotient_of x y s t e f = ap (λ z. cast_unsigned w16 (int_div z (cast_signed w16 y))) e ∙ ap (λ z. cast_unsigned w16 (int_div s z)) f

pub signed_quotient_is : (x y : ℕ) → x < 65536 → y < 65536 → signed_quotient w16 x y ≡ negated (turned (sign x) (sign y)) (magnitude x / magnitude y)
signed_quotient_is x y hx hy = ⊎_elim (λ lx. ⊎_elim (λ ly. low_low lx ly) (λ gy. low_high lx gy) (cases_lt y 32768)) (λ gx. ⊎_elim (λ ly. high_low gx ly) (λ gy. high_high gx gy) (cases_lt y 32768)) (cases_lt x 32768)
  where
    low_low : x < 32768 → y < 32768 → IsQuotient x y
    low_low lx ly =
        let d = div-le_self x y in
        quotient_of x y (pos x) (pos y) (signed_low x lx) (signed_low y ly)
        ∙ unsigned_pos (x / y) (omega arith)
        ∙ sym (signs x y false false (sign_low x lx) (sign_low y ly) x y 0 (magnitude_low x lx) (magnitude_low y ly))

    low_high : x < 32768 → 32768 ≤ y → IsQuotient x y
    low_high lx gy =
        let b = 65535 - y in
        let m : suc b ≡ 65536 - y = omega arith in
        let d = div-le_self x (65536 - y) in
        quotient_of x y (pos x) (negsuc b) (signed_low x lx) (signed_high y b gy hy m)
        ∙ ap (λ n. cast_unsigned w16 (neg_ℤ (pos (x / n)))) m
        ∙ unsigned_neg (x / (65536 - y)) (omega arith)
        ∙ sym (signs x y false true (sign_low x lx) (sign_high y gy) x (65536 - y) 0 (magnitude_low x lx) (magnitude_high y gy hy))

    high_low : 32768 ≤ x → y < 32768 → IsQuotient x y
    high_low gx ly =
        let a = 65535 - x in
        let m : suc a ≡ 65536 - x = omega arith in
        let d = div-le_self (65536 - x) y in
        quotient_of x y (negsuc a) (pos y) (signed_high x a gx hx m) (signed_low y ly)
        ∙ ap (λ n. cast_unsigned w16 (neg_ℤ (pos (n / y)))) m
        ∙ unsigned_neg ((65536 - x) / y) (omega arith)
        ∙ sym (signs x y true false (sign_high x gx) (sign_low y ly) (65536 - x) y 0 (magnitude_high x gx hx) (magnitude_low y ly))

    high_high : 32768 ≤ x → 32768 ≤ y → IsQuotient x y
    high_high gx gy =
        let a = 65535 - x in
        let b = 65535 - y in
        let m : suc a ≡ 65536 - x = omega arith in
        let n : suc b ≡ 65536 - y = omega arith in
        let d = div-le_self (65536 - x) (65536 - y) in
        quotient_of x y (negsuc a) (negsuc b) (signed_high x a gx hx m) (signed_high y b gy hy n)
        ∙ ap (λ k. cast_unsigned w16 (pos (k / suc b))) m
        ∙ ap (λ k. cast_unsigned w16 (pos ((65536 - x) / k))) n
        ∙ unsigned_pos ((65536 - x) / (65536 - y)) (omega arith)
        ∙ sym (signs x y true true (sign_high x gx) (sign_high y gy) (65536 - x) (65536 - y) 0 (magnitude_high x gx hx) (magnitude_high y gy hy))

remainders : (x y : ℕ) (a : Bool) → sign x ≡ a → (n m : ℕ) → magnitude x ≡ n → magnitude y ≡ m → negated (sign x) (magnitude x % magnitude y) ≡ negated a (n % m)
remainders x y a e n m g h = ap (λ s. negated s (magnitude x % magnitude y)) e ∙ ap (λ k. negated a (k % magnitude y)) g ∙ ap (λ k. negated a (n % k)) h

remainder_of : (x y : ℕ) (s t : ℤ) → cast_signed w16 x ≡ s → cast_signed w16 y ≡ t → signed_remainder w16 x y ≡ cast_unsigned w16 (int_rem s t)
remainder_of x y s t e f = ap (λ z. cast_unsigned w16 (int_rem z (cast_signed w16 y))) e ∙ ap (λ z. cast_unsigned w16 (int_rem s z)) f

rem_small : (a b : ℕ) → a < 65536 → a % b < 65536
rem_small a b h = let z = mod-le a b in omega arith

pub signed_remainder_is : (x y : ℕ) → x < 65536 → y < 65536 → signed_remainder w16 x y ≡ negated (sign x) (magnitude x % magnitude y)
signed_remainder_is x y hx hy = ⊎_elim (λ lx. ⊎_elim (λ ly. low_low lx ly) (λ gy. low_high lx gy) (cases_lt y 32768)) (λ gx. ⊎_elim (λ ly. high_low gx ly) (λ gy. high_high gx gy) (cases_lt y 32768)) (cases_lt x 32768)
  where
    low_low : x < 32768 → y < 32768 → IsRemainder x y
    low_low lx ly =
        remainder_of x y (pos x) (pos y) (signed_low x lx) (signed_low y ly)
        ∙ unsigned_pos (x % y) (rem_small x y hx)
        ∙ sym (remainders x y false (sign_low x lx) x y (magnitude_low x lx) (magnitude_low y ly))

    low_high : x < 32768 → 32768 ≤ y → IsRemainder x y
    low_high lx gy =
        let b = 65535 - y in
        let m : suc b ≡ 65536 - y = omega arith in
        remainder_of x y (pos x) (negsuc b) (signed_low x lx) (signed_high y b gy hy m)
        ∙ ap (λ n. cast_unsigned w16 (pos (x % n))) m
        ∙ unsigned_pos (x % (65536 - y)) (rem_small x (65536 - y) hx)
        ∙ sym (remainders x y false (sign_low x lx) x (65536 - y) (magnitude_low x lx) (magnitude_high y gy hy))

    high_low : 32768 ≤ x → y < 32768 → IsRemainder x y
    high_low gx ly =
        let a = 65535 - x in
        let m : suc a ≡ 65536 - x = omega arith in
        remainder_of x y (negsuc a) (pos y) (signed_high x a gx hx m) (signed_low y ly)
        ∙ ap (λ n. cast_unsigned w16 (neg_ℤ (pos (n % y)))) m
        ∙ unsigned_neg ((65536 - x) % y) (rem_small (65536 - x) y (omega arith))
        ∙ sym (remainders x y true (sign_high x gx) (65536 - x) y (magnitude_high x gx hx) (magnitude_low y ly))

    high_high : 32768 ≤ x → 32768 ≤ y → IsRemainder x y
    high_high gx gy =
        let a = 65535 - x in
        let b = 65535 - y in
        let m : suc a ≡ 65536 - x = omega arith in
        let n : suc b ≡ 65536 - y = omega arith in
        remainder_of x y (negsuc a) (negsuc b) (signed_high x a gx hx m) (signed_high y b gy hy n)
        ∙ ap (λ k. cast_unsigned w16 (neg_ℤ (pos (k % suc b)))) m
        ∙ ap (λ k. cast_unsigned w16 (neg_ℤ (pos ((65536 - x) % k)))) n
        ∙ unsigned_neg ((65536 - x) % (65536 - y)) (rem_small (65536 - x) (65536 - y) (omega arith))
        ∙ sym (remainders x y true (sign_high x gx) (65536 - x) (65536 - y) (magnitude_high x gx hx) (magnitude_high y gy hy))

pub magnitude_small : (v : ℕ) → v < 65536 → magnitude v < 65536
magnitude_small v h = ⊎_elim (λ l. let e = magnitude_low v l in omega arith) (λ g. let e = magnitude_high v g h in omega arith) (cases_lt v 32768)

-- a divisor that isn't 0 has a magnitude that isn't
pub magnitude_positive : (n : ℕ) → suc n < 65536 → (k : ℕ) × (magnitude (suc n) ≡ suc k)
magnitude_positive n h =
    ⊎_elim
    (λ l. (n, magnitude_low (suc n) l))
    (λ g. (65535 - suc n, magnitude_high (suc n) g h ∙ (omega arith)))
    (cases_lt (suc n) 32768)
