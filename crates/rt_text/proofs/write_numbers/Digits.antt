-- Numbers, their digits and their texts.
use Rattle.std.proofs.Common.{◌≡◌, ℕ, zero, suc, ◌+◌, ◌-◌, ◌*◌, ◌/◌, ◌%◌, ◌<◌, ◌≤◌, ◌⊎◌, inl, inr, Bool, true, false, List, [], ◌∷◌, ◌++◌, length, get_or, decimal, ℤ, pos, negsuc, refl, sym, ap, subst, ◌∙◌, arith, length-append}
use Rattle.std.specs.Prelude.{◌==◌, ◌&&◌, nat_lt, bit_and}
use Rattle.std.proofs.lemmas.Bool.Decides.{nat_tests}
use Rattle.std.proofs.lemmas.Int.{ints}
use Rattle.std.proofs.lemmas.Fmt.{decimal_step, decimal_digit}
use Rattle.common_values.specs.integers.Words.{w16, w32, wrapping_add, wrapping_sub, shifted_left, shifted_right, low_byte, cast_signed, is_signed_less}
use Rattle.common_values.specs.Written.{integer_text}
use Rattle.flat_code.specs.declared.memory.Place.{Place}
use Rattle.flat_code.specs.declared.memory.Cell.TheVariants.{Known}
use Rattle.flat_code.specs.Memory.{Cells, address_of, put}
use Rattle.flat_code.specs.Meaning.{truth}
use Rattle.flat_code.specs.Runtime.{long_word}
use Rattle.runtime_proofs.specs.string_loops.Laid.{laid_back}
use Rattle.rt_text.proofs.write_text.MadeText.{Small}

-- ---- one division by 10, as the routine does it

abbrev pub first_dividend : ℕ → ℕ → ℕ
first_dividend l h = wrapping_add w16 (shifted_left w16 (h % 10) (low_byte 8)) (shifted_right l (low_byte 8))

abbrev pub second_dividend : ℕ → ℕ → ℕ
second_dividend l h = wrapping_add w16 (shifted_left w16 (first_dividend l h % 10) (low_byte 8)) (l % 256)

abbrev pub low_quotient : ℕ → ℕ → ℕ
low_quotient l h = wrapping_add w16 (shifted_left w16 (first_dividend l h / 10) (low_byte 8)) (second_dividend l h / 10)

abbrev pub digit_byte : ℕ → ℕ → ℕ
digit_byte l h = low_byte (wrapping_add w16 48 (second_dividend l h % 10))

first-is : (l h : ℕ) → l < 65536 → first_dividend l h ≡ h % 10 * 256 + l / 256
first-is l h p = omega (arith, p)

second-so : (a l : ℕ) → a < 2560 → wrapping_add w16 (shifted_left w16 (a % 10) (low_byte 8)) (l % 256) ≡ a % 10 * 256 + l % 256
second-so a l p = omega (arith, p)

low-so : (a b : ℕ) → a < 2560 → b < 2560 → wrapping_add w16 (shifted_left w16 (a / 10) (low_byte 8)) (b / 10) ≡ a / 10 * 256 + b / 10
low-so a b p q = omega (arith, p, q)

-- quotient and rest of the whole
whole-quotient : (l h a b : ℕ) → a ≡ h % 10 * 256 + l / 256 → b ≡ a % 10 * 256 + l % 256 → a / 10 * 256 + b / 10 + 65536 * (h / 10) ≡ (l + 65536 * h) / 10
whole-quotient l h a b p q = omega (arith, p, q)

whole-rest : (l h a b : ℕ) → a ≡ h % 10 * 256 + l / 256 → b ≡ a % 10 * 256 + l % 256 → b % 10 ≡ (l + 65536 * h) % 10
whole-rest l h a b p q = omega (arith, p, q)

pub record Divided (l h : ℕ) : Type 0 where
  pub quotient : low_quotient l h + 65536 * (h / 10) ≡ (l + 65536 * h) / 10
  pub digit : digit_byte l h ≡ 48 + (l + 65536 * h) % 10
  pub small : low_quotient l h < 65536

digit-so : (b r : ℕ) → b % 10 ≡ r → r < 10 → low_byte (wrapping_add w16 48 (b % 10)) ≡ 48 + r
digit-so b r e h = omega (arith, e, h)

pub divided : (l h : ℕ) → l < 65536 → Divided l h
divided l h p =
    let a = first_dividend l h in
    let b = second_dividend l h in
    let a_is = first-is l h p in
    let a_small : a < 2560 = omega (arith, a_is, p) in
    let b_is = second-so a l a_small in
    let b_small : b < 2560 = omega (arith, b_is) in
    let low = low-so a b a_small b_small in
    record {
      quotient = ap (λ x. x + 65536 * (h / 10)) low ∙ whole-quotient l h a b a_is b_is;
      digit = digit-so b ((l + 65536 * h) % 10) (whole-rest l h a b a_is b_is) (omega arith);
      small = omega (arith, low, a_small, b_small);
    }

-- ---- tests

pub both-bits : (p q : Bool) → bit_and (truth p) (truth q) ≡ truth (p && q)
both-bits true true = refl
both-bits true false = refl
both-bits false true = refl
both-bits false false = refl

pub zero-decided : (l h : ℕ) → ((l ≡ 0) × (h ≡ 0) × (truth ((l == 0) && (h == 0)) ≡ 1)) ⊎ ((0 < l + 65536 * h) × (truth ((l == 0) && (h == 0)) ≡ 0))
zero-decided l h = grind (arith, nat_tests)

pub sign-decided : (h : ℕ) → h < 65536 → ((h < 32768) × (truth (is_signed_less w16 h 0) ≡ 0)) ⊎ ((32768 ≤ h) × (truth (is_signed_less w16 h 0) ≡ 1))
sign-decided h p = grind (arith, nat_tests, ints)

-- ---- texts

signed-so : (x : ℕ) → x < 2147483648 → cast_signed w32 x ≡ pos x
signed-so x h = grind (arith, nat_tests, ints)

signed-negative : (x n : ℕ) → 2147483648 ≤ x → x < 4294967296 → 4294967296 - x ≡ suc n → cast_signed w32 x ≡ negsuc n
signed-negative x n h l e = grind (arith, nat_tests, ints)

pub positive-text : (l h : ℕ) → l < 65536 → h < 32768 → decimal (l + 65536 * h) ≡ integer_text (cast_signed w32 (long_word l h))
positive-text l h p q = sym (ap integer_text (signed-so (l + 65536 * h) (omega (arith, p, q))))

-- the magnitude of a negative number
abbrev pub negative_low : ℕ → ℕ
negative_low l = wrapping_sub w16 0 l

abbrev pub negative_high : ℕ → ℕ → ℕ
negative_high l h = wrapping_sub w16 (wrapping_sub w16 0 h) (truth (nat_lt 0 l))

magnitude-so : (l h b : ℕ) → l < 65536 → h < 65536 → 32768 ≤ h → ((l ≡ 0) × (b ≡ 0)) ⊎ ((0 < l) × (b ≡ 1)) → negative_low l + 65536 * wrapping_sub w16 (wrapping_sub w16 0 h) b ≡ 4294967296 - (l + 65536 * h)
magnitude-so l h b p q r (inl k) = omega (arith, p, q, r, k.0, k.1)
magnitude-so l h b p q r (inr k) = omega (arith, p, q, r, k.0, k.1)

borrow-decided : (l : ℕ) → ((l ≡ 0) × (truth (nat_lt 0 l) ≡ 0)) ⊎ ((0 < l) × (truth (nat_lt 0 l) ≡ 1))
borrow-decided l = grind (arith, nat_tests)

pub magnitude : (l h : ℕ) → l < 65536 → h < 65536 → 32768 ≤ h → negative_low l + 65536 * negative_high l h ≡ 4294967296 - (l + 65536 * h)
magnitude l h p q r = magnitude-so l h (truth (nat_lt 0 l)) p q r (borrow-decided l)

pub negative-text : (l h n : ℕ) → l < 65536 → h < 65536 → 32768 ≤ h → n ≡ 4294967296 - (l + 65536 * h) → 45 ∷ decimal n ≡ integer_text (cast_signed w32 (long_word l h))
negative-text l h n p q r e =
    let v = l + 65536 * h in
    let k = 4294967296 - v - 1 in
    let is : n ≡ suc k = omega (arith, e, p, q, r) in
    ap (λ x. 45 ∷ decimal x) is ∙ sym (ap integer_text (signed-negative v k (omega (arith, r)) (omega (arith, p, q)) (omega (arith, p, q))))

-- ---- bytes

pub small-append : (xs : List ℕ) (b : ℕ) → Small xs → b < 256 → Small (xs ++ b ∷ [])
small-append [] b s h = (h, tt)
small-append (x ∷ xs) b s h = (s.0, small-append xs b s.1 h)

pub small-at : (bytes : List ℕ) → Small bytes → (k : ℕ) → k < length bytes → get_or bytes k 0 < 256
small-at [] small k h = absurd (omega (arith, h))
small-at (b ∷ bytes) small zero h = small.0
small-at (b ∷ bytes) small (suc k) h = small-at bytes small.1 k (omega (arith, h))

-- the last byte is stored first
pub laid_back-last : (m : Cells) (p : Place) (i : ℕ) (xs : List ℕ) (b : ℕ) → laid_back m p i (xs ++ b ∷ []) ≡ laid_back (put m (address_of p (i + length xs)) (Known b)) p i xs
laid_back-last m p i [] b = let e : i ≡ i + 0 = omega arith in ap (λ j. put m (address_of p j) (Known b)) e
laid_back-last m p i (x ∷ xs) b =
    let e : i + 1 + length xs ≡ i + suc (length xs) = omega arith in
    ap (λ k. put k (address_of p i) (Known x)) (laid_back-last m p (i + 1) xs b ∙ ap (λ j. laid_back (put m (address_of p j) (Known b)) p (i + 1) xs) e)

-- a bound for numbers of so many digits
abbrev pub tens : ℕ → ℕ
tens zero = 1
tens (suc k) = 10 * tens k

pub last-digit : (n : ℕ) → n / 10 ≡ 0 → decimal n ≡ (48 + n % 10) ∷ []
last-digit n h =
    let small : n < 10 = omega (arith, h) in
    let same : 48 + n ≡ 48 + n % 10 = omega (arith, small) in
    decimal_digit n small ∙ ap (λ b. b ∷ []) same

pub more-digits : (n : ℕ) → 0 < n / 10 → n < 4294967296 → decimal n ≡ decimal (n / 10) ++ (48 + n % 10) ∷ []
more-digits n h small = decimal_step n (omega (arith, h)) (omega (arith, small))
