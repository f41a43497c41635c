-- The laws of words.
use Rattle.std.proofs.Common.{◌≡◌, ℕ, zero, suc, ◌+◌, ◌-◌, ◌*◌, ◌/◌, ◌%◌, ◌^◌, ◌<◌, ◌≤◌, sym, ap, subst, ◌∙◌, refl, arith}
use Rattle.std.proofs.Math.IntN.{ℤ, pos, negsuc, neg_ℤ, ◌+ℤ◌, ◌-ℤ◌, ◌*ℤ◌}
use Rattle.std.proofs.Math.Nat.{mod-add-mod, add-mod, add-mod_right, mod-eq_of_lt, mod-lt, mul-mod_left, div-eq_of_lt, div-le_self, le_trans, lt_of_le_of_lt, pow-le-pow_right}
use Rattle.std.proofs.lemmas.Nat.{pow_pos, pow-add, shr-shr, mul-mod_first, mul-mod, div-add-mod'}
use Rattle.std.proofs.lemmas.Int.{of_z-to_z, to_z-of_z, wrapping_add-bits, wrapping_sub-bits, wrapping_mul-bits, int_wrap_fits, int_wrap-add_left, int_wrap-add_right, int_wrap-mul_left, int_wrap-mul_right, quot-rem}
use Rattle.std.specs.Int.{int_wrap, int_shr}
use Rattle.std.specs.Int.RustNames.{FitsSigned, int_div, int_rem, unsigned_abs}
use Rattle.std.specs.Int.Signed.{mag, mag_shr, mag_rem}
use Rattle.std.proofs.Math.Facts.{sfits_to_z}
use Rattle.std.specs.Int.{w8, w16, w32, w64, w128}
use mir.Val.{hbits}
use Rattle.common_values.specs.integers.Words.{Width, bits, IsWord, wrap, word_of, cast_signed, cast_unsigned, wrapping_add, wrapping_sub, wrapping_mul, signed_quotient, signed_remainder, shifted_left, shifted_right, shifted_right_signed}
use Rattle.common_values.specs.integers.Laws.{WrapLaws, SignedLaws, ArithmeticLaws, DivisionLaws, ByteLaws, ShiftLaws}

pub wrap-below : (w : Width) (n : ℕ) → IsWord w (wrap w n)
wrap-below w n = mod-lt n (pow_pos (bits w))

pub wrap_laws : (w : Width) → WrapLaws w
wrap_laws w = record {
  below = wrap-below w;
  word = λ n h. mod-eq_of_lt h;
  add = λ a b. sym (add-mod a b (2 ^ bits w));
  mul = λ a b. sym (mul-mod a b (2 ^ bits w));
}

pub byte_laws : ByteLaws
byte_laws = record {
  low = λ n. omega arith;
  high = λ n. omega arith;
  word = λ a b p q. omega arith;
  whole = λ n h. omega arith;
  low_of = λ a b p q. omega arith;
  high_of = λ a b p q. omega arith;
}

-- ---- words and signed numbers

pub word_of-word : (w : Width) (z : ℤ) → IsWord w (word_of w z)
word_of-word w (pos n) = wrap-below w n
word_of-word w (negsuc n) = let some = pow_pos (bits w) in omega arith

-- `word_of` keeps what std's `int_wrap` keeps
pub word_of-int_wrap : (w : Width) (z : ℤ) → cast_unsigned w (int_wrap w z) ≡ word_of w z
unfolding int_wrap
word_of-int_wrap w (pos n) = of_z-to_z w (n % 2 ^ bits w) (wrap-below w n)
word_of-int_wrap w (negsuc n) = of_z-to_z w (2 ^ bits w - 1 - n % 2 ^ bits w) (word_of-word w (negsuc n))

pub signed-word_of : (w : Width) (z : ℤ) → cast_signed w (word_of w z) ≡ int_wrap w z
unfolding int_wrap
signed-word_of w (pos n) = refl
signed-word_of w (negsuc n) = refl

-- what fits a word and its sign is stored as it is wrapped
pub cast_unsigned-word_of : (w : Width) (z : ℤ) → mag z < 2 ^ bits w → cast_unsigned w z ≡ word_of w z
cast_unsigned-word_of w (pos n) h = sym (mod-eq_of_lt h)
cast_unsigned-word_of w (negsuc n) h = let e : n % 2 ^ bits w ≡ n = mod-eq_of_lt h in omega (arith, e)

pub signed-fits : (w : Width) (n : ℕ) → IsWord w n → FitsSigned w (cast_signed w n)
signed-fits w n h = sfits_to_z {w = w} {n = n} (record { fits = h })

pub word_of-signed : (w : Width) (n : ℕ) → IsWord w n → word_of w (cast_signed w n) ≡ n
word_of-signed w n h =
    sym (word_of-int_wrap w (cast_signed w n)) ∙ ap (cast_unsigned w) (int_wrap_fits w (cast_signed w n) (signed-fits w n h)) ∙ of_z-to_z w n h

pub signed_laws : (w : Width) → SignedLaws w
signed_laws w = record {
  word = word_of-word w;
  there = λ z h. signed-word_of w z ∙ int_wrap_fits w z h;
  back = word_of-signed w;
}

-- ---- arithmetic

pub wrapping_add-word_of : (w : Width) (x y : ℕ) → IsWord w x → IsWord w y → wrapping_add w x y ≡ word_of w (cast_signed w x +ℤ cast_signed w y)
wrapping_add-word_of w x y p q =
    sym (of_z-to_z w (wrapping_add w x y) (wrap-below w _)) ∙ ap (cast_unsigned w) (wrapping_add-bits w x y p q) ∙ word_of-int_wrap w (cast_signed w x +ℤ cast_signed w y)

pub wrapping_sub-word_of : (w : Width) (x y : ℕ) → IsWord w x → IsWord w y → wrapping_sub w x y ≡ word_of w (cast_signed w x -ℤ cast_signed w y)
wrapping_sub-word_of w x y p q =
    sym (of_z-to_z w (wrapping_sub w x y) (wrap-below w _)) ∙ ap (cast_unsigned w) (wrapping_sub-bits w x y p q) ∙ word_of-int_wrap w (cast_signed w x -ℤ cast_signed w y)

pub wrapping_mul-word_of : (w : Width) (x y : ℕ) → IsWord w x → IsWord w y → wrapping_mul w x y ≡ word_of w (cast_signed w x *ℤ cast_signed w y)
wrapping_mul-word_of w x y p q =
    sym (of_z-to_z w (wrapping_mul w x y) (wrap-below w _)) ∙ ap (cast_unsigned w) (wrapping_mul-bits w x y p q) ∙ word_of-int_wrap w (cast_signed w x *ℤ cast_signed w y)

pub wrapping_sub-add : (w : Width) (x y : ℕ) → IsWord w x → IsWord w y → wrapping_add w (wrapping_sub w x y) y ≡ x
wrapping_sub-add w x y p q =
    let e : x + (2 ^ bits w - y) + y ≡ x + 2 ^ bits w = omega arith in
    mod-add-mod (x + (2 ^ bits w - y)) (2 ^ bits w) y ∙ ap (wrap w) e ∙ add-mod_right x (2 ^ bits w) ∙ mod-eq_of_lt p

pub arithmetic_laws : (w : Width) → ArithmeticLaws w
arithmetic_laws w = record {
  add = wrapping_add-word_of w;
  sub = wrapping_sub-word_of w;
  mul = wrapping_mul-word_of w;
  sub_add = wrapping_sub-add w;
  product = λ x y. div-add-mod' (x * y) (2 ^ bits w);
}

ap2 : (f : ℤ → ℤ → ℕ) {a b c d : ℤ} → a ≡ b → c ≡ d → f a c ≡ f b d
ap2 f e g = cc

-- the sum and the product of any two integers, kept in words
pub word_of-add : (w : Width) (a b : ℤ) → word_of w (a +ℤ b) ≡ wrapping_add w (word_of w a) (word_of w b)
word_of-add w a b =
    sym (word_of-int_wrap w (a +ℤ b)) ∙ ap (cast_unsigned w) (sym (int_wrap-add_left w a b) ∙ sym (int_wrap-add_right w (int_wrap w a) b))
    ∙ word_of-int_wrap w (int_wrap w a +ℤ int_wrap w b)
    ∙ ap2 (λ x y. word_of w (x +ℤ y)) (sym (signed-word_of w a)) (sym (signed-word_of w b))
    ∙ sym (wrapping_add-word_of w (word_of w a) (word_of w b) (word_of-word w a) (word_of-word w b))

pub word_of-mul : (w : Width) (a b : ℤ) → word_of w (a *ℤ b) ≡ wrapping_mul w (word_of w a) (word_of w b)
word_of-mul w a b =
    sym (word_of-int_wrap w (a *ℤ b)) ∙ ap (cast_unsigned w) (sym (int_wrap-mul_left w a b) ∙ sym (int_wrap-mul_right w (int_wrap w a) b))
    ∙ word_of-int_wrap w (int_wrap w a *ℤ int_wrap w b)
    ∙ ap2 (λ x y. word_of w (x *ℤ y)) (sym (signed-word_of w a)) (sym (signed-word_of w b))
    ∙ sym (wrapping_mul-word_of w (word_of w a) (word_of w b) (word_of-word w a) (word_of-word w b))

-- ---- division

ap2' : (f : ℕ → ℕ → ℕ) {a b c d : ℕ} → a ≡ b → c ≡ d → f a c ≡ f b d
ap2' f e g = cc

-- half of the words stand for numbers that are not negative
half : (w : Width) → 2 ^ bits w ≡ 2 * 2 ^ hbits w
half w8 = refl
half w16 = refl
half w32 = refl
half w64 = refl
half w128 = refl

abs-mag : (z : ℤ) → unsigned_abs z ≤ mag z + 1
abs-mag (pos n) = omega arith
abs-mag (negsuc n) = omega arith

mag-neg : (n : ℕ) → mag (neg_ℤ (pos n)) ≤ n
mag-neg zero = omega arith
mag-neg (suc n) = omega arith

mag-int_div : (a d : ℤ) → mag (int_div a d) ≤ unsigned_abs a
mag-int_div (pos a) (pos b) = div-le_self a b
mag-int_div (pos a) (negsuc b) = le_trans (mag-neg (a / suc b)) (div-le_self a (suc b))
mag-int_div (negsuc a) (pos b) = le_trans (mag-neg (suc a / b)) (div-le_self (suc a) b)
mag-int_div (negsuc a) (negsuc b) = div-le_self (suc a) (suc b)

-- the quotient of two words needs no more bits than they have
quotient-small : (w : Width) (x y : ℕ) → IsWord w x → mag (int_div (cast_signed w x) (cast_signed w y)) < 2 ^ bits w
quotient-small w x y p =
    let f = signed-fits w x p in
    omega (arith, f.sfits, half w, pow_pos (hbits w), abs-mag (cast_signed w x), mag-int_div (cast_signed w x) (cast_signed w y))

remainder-small : (w : Width) (x y : ℕ) → IsWord w x → mag (int_rem (cast_signed w x) (cast_signed w y)) < 2 ^ bits w
remainder-small w x y p =
    let f = signed-fits w x p in omega (arith, f.sfits, half w, pow_pos (hbits w), mag_rem (cast_signed w x) (cast_signed w y))

pub signed_quotient-word : (w : Width) (x y : ℕ) → IsWord w x → IsWord w (signed_quotient w x y)
signed_quotient-word w x y p =
    subst (IsWord w) (sym (cast_unsigned-word_of w _ (quotient-small w x y p))) (word_of-word w (int_div (cast_signed w x) (cast_signed w y)))

pub signed_remainder-word : (w : Width) (x y : ℕ) → IsWord w x → IsWord w (signed_remainder w x y)
signed_remainder-word w x y p =
    subst (IsWord w) (sym (cast_unsigned-word_of w _ (remainder-small w x y p))) (word_of-word w (int_rem (cast_signed w x) (cast_signed w y)))

pub signed_quotient-remainder : (w : Width) (x y : ℕ) → IsWord w x → IsWord w y → wrapping_add w (wrapping_mul w (signed_quotient w x y) y) (signed_remainder w x y) ≡ x
signed_quotient-remainder w x y p q =
    let a = cast_signed w x in
    let d = cast_signed w y in
    ap2' (λ m n. wrapping_add w (wrapping_mul w m y) n) (cast_unsigned-word_of w (int_div a d) (quotient-small w x y p)) (cast_unsigned-word_of w (int_rem a d) (remainder-small w x y p))
    ∙ ap (λ n. wrapping_add w (wrapping_mul w (word_of w (int_div a d)) n) (word_of w (int_rem a d))) (sym (word_of-signed w y q))
    ∙ ap (λ n. wrapping_add w n (word_of w (int_rem a d))) (sym (word_of-mul w (int_div a d) d))
    ∙ sym (word_of-add w (int_div a d *ℤ d) (int_rem a d))
    ∙ ap (word_of w) (quot-rem a d)
    ∙ word_of-signed w x p

pub signed_remainder-signed : (w : Width) (x y : ℕ) → IsWord w x → cast_signed w (signed_remainder w x y) ≡ int_rem (cast_signed w x) (cast_signed w y)
signed_remainder-signed w x y p =
    let f = signed-fits w x p in
    to_z-of_z w (int_rem (cast_signed w x) (cast_signed w y)) (record { sfits = lt_of_le_of_lt (mag_rem (cast_signed w x) (cast_signed w y)) f.sfits })

pub division_laws : (w : Width) → DivisionLaws w
division_laws w = record {
  quotient = signed_quotient-word w;
  remainder = signed_remainder-word w;
  quotient_signed = λ x y h. to_z-of_z w (int_div (cast_signed w x) (cast_signed w y)) h;
  remainder_signed = signed_remainder-signed w;
  whole = signed_quotient-remainder w;
}

-- ---- shifts

pub shifted_left-twice : (w : Width) (x j k : ℕ) → shifted_left w (shifted_left w x j) k ≡ shifted_left w x (j + k)
shifted_left-twice w x j k =
    let e : x * 2 ^ j * 2 ^ k ≡ x * 2 ^ (j + k) = grind (arith, pow-add 2 j k) in
    mul-mod_first (x * 2 ^ j) (2 ^ k) (2 ^ bits w) ∙ ap (wrap w) e

pub shifted_left-out : (w : Width) (x k : ℕ) → bits w ≤ k → shifted_left w x k ≡ 0
shifted_left-out w x k h =
    let e : k - bits w + bits w ≡ k = omega arith in
    let f : x * 2 ^ k ≡ x * 2 ^ (k - bits w) * 2 ^ bits w = grind (arith, pow-add 2 (k - bits w) (bits w), e) in
    ap (wrap w) f ∙ mul-mod_left (x * 2 ^ (k - bits w)) (2 ^ bits w)

pub shifted_right-out : (w : Width) (x k : ℕ) → IsWord w x → bits w ≤ k → shifted_right x k ≡ 0
shifted_right-out w x k p h = let e : 2 ^ bits w ≤ 2 ^ k = pow-le-pow_right {n = 2} (omega arith) h in div-eq_of_lt (omega arith)

pub shifted_right_signed-signed : (w : Width) (x k : ℕ) → IsWord w x → cast_signed w (shifted_right_signed w x k) ≡ int_shr (cast_signed w x) k
shifted_right_signed-signed w x k h =
    let f = signed-fits w x h in
    to_z-of_z w (int_shr (cast_signed w x) k) (record { sfits = lt_of_le_of_lt (mag_shr (cast_signed w x) (2 ^ k)) f.sfits })

pub shift_laws : (w : Width) → ShiftLaws w
shift_laws w = record {
  left = shifted_left-twice w;
  left_out = shifted_left-out w;
  right = shr-shr;
  right_out = shifted_right-out w;
  signed = shifted_right_signed-signed w;
}
