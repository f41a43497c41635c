-- What a byte is worth as a digit, and a magnitude with one more digit.
use Rattle.std.proofs.Common.{◌≡◌, ℕ, ◌+◌, ◌-◌, ◌*◌, ◌/◌, ◌%◌, ◌<◌, ◌≤◌, ◌⊎◌, inl, inr, Bool, true, false, refl, sym, ap, ◌∙◌, arith}
use Rattle.std.specs.Prelude.{nat_lt, nat_le, ◌==◌, ◌&&◌, ◌||◌, bit_and, bit_or}
use Rattle.std.specs.Char.{digit_value}
use Rattle.std.proofs.lemmas.Bool.{cases_lt}
use Rattle.std.proofs.lemmas.Bool.Decides.{nat_tests}
use Rattle.common_values.specs.integers.Words.{w16, wrapping_add, wrapping_sub, wrapping_mul, high_product}
use Rattle.common_values.specs.Numerals.{radix_of, greatest_magnitude}
use Rattle.flat_code.specs.Meaning.{truth}

-- ---- tests

pub and-bits : (p q : Bool) → bit_and (truth p) (truth q) ≡ truth (p && q)
and-bits true true = refl
and-bits true false = refl
and-bits false true = refl
and-bits false false = refl

pub or-bits : (p q : Bool) → bit_or (truth p) (truth q) ≡ truth (p || q)
or-bits true true = refl
or-bits true false = refl
or-bits false true = refl
or-bits false false = refl

clear-bit : (k b : ℕ) → b ≤ k → truth (nat_lt k b) ≡ 0
clear-bit k b h = grind (arith, nat_tests, h)

set-bit : (k b : ℕ) → k < b → truth (nat_lt k b) ≡ 1
set-bit k b h = grind (arith, nat_tests, h)

-- ---- a byte as a digit

-- by the tests whether it is above '9', '@' and '`'
abbrev worth_by : ℕ → ℕ → ℕ → ℕ → ℕ
worth_by b x y z = wrapping_sub w16 (wrapping_sub w16 (wrapping_add w16 (wrapping_sub w16 b 48) (wrapping_mul w16 16 x)) (wrapping_mul w16 23 y)) (wrapping_mul w16 32 z)

abbrev pub digit_word : ℕ → ℕ
digit_word b = worth_by b (truth (nat_lt 57 b)) (truth (nat_lt 64 b)) (truth (nat_lt 96 b))

before-digits : (b x y z : ℕ) → b < 48 → x ≡ 0 → y ≡ 0 → z ≡ 0 → 16 ≤ worth_by b x y z
before-digits b x y z h p q r = omega (arith, h, p, q, r)

decimal-digit : (b x y z : ℕ) → 48 ≤ b → b < 58 → x ≡ 0 → y ≡ 0 → z ≡ 0 → worth_by b x y z ≡ b - 48
decimal-digit b x y z h k p q r = omega (arith, h, k, p, q, r)

behind-digits : (b x y z : ℕ) → 58 ≤ b → b < 65 → x ≡ 1 → y ≡ 0 → z ≡ 0 → 16 ≤ worth_by b x y z
behind-digits b x y z h k p q r = omega (arith, h, k, p, q, r)

upper-digit : (b x y z : ℕ) → 65 ≤ b → b < 71 → x ≡ 1 → y ≡ 1 → z ≡ 0 → worth_by b x y z ≡ b - 55
upper-digit b x y z h k p q r = omega (arith, h, k, p, q, r)

behind-upper : (b x y z : ℕ) → 71 ≤ b → b < 97 → x ≡ 1 → y ≡ 1 → z ≡ 0 → 16 ≤ worth_by b x y z
behind-upper b x y z h k p q r = omega (arith, h, k, p, q, r)

lower-digit : (b x y z : ℕ) → 97 ≤ b → b < 103 → x ≡ 1 → y ≡ 1 → z ≡ 1 → worth_by b x y z ≡ b - 87
lower-digit b x y z h k p q r = omega (arith, h, k, p, q, r)

behind-lower : (b x y z : ℕ) → 103 ≤ b → b < 256 → x ≡ 1 → y ≡ 1 → z ≡ 1 → 16 ≤ worth_by b x y z
behind-lower b x y z h k p q r = omega (arith, h, k, p, q, r)

-- the same of its value as a character
value-before : (b : ℕ) → b < 48 → digit_value b ≡ 36
value-before b h = grind (arith, nat_tests, h)

value-decimal : (b : ℕ) → 48 ≤ b → b < 58 → digit_value b ≡ b - 48
value-decimal b h k = grind (arith, nat_tests, h, k)

value-behind : (b : ℕ) → 58 ≤ b → b < 65 → digit_value b ≡ 36
value-behind b h k = grind (arith, nat_tests, h, k)

value-upper : (b : ℕ) → 65 ≤ b → b < 91 → digit_value b ≡ b - 55
value-upper b h k = grind (arith, nat_tests, h, k)

value-between : (b : ℕ) → 91 ≤ b → b < 97 → digit_value b ≡ 36
value-between b h k = grind (arith, nat_tests, h, k)

value-lower : (b : ℕ) → 97 ≤ b → b < 123 → digit_value b ≡ b - 87
value-lower b h k = grind (arith, nat_tests, h, k)

value-past : (b : ℕ) → 123 ≤ b → digit_value b ≡ 36
value-past b h = grind (arith, nat_tests, h)

-- a digit of either radix, or none
abbrev Worth : ℕ → ℕ → Type 0
Worth w v = ((w < 16) × (w ≡ v)) ⊎ ((16 ≤ w) × (16 ≤ v))

is-digit : (w v x : ℕ) → x < 16 → w ≡ x → v ≡ x → Worth w v
is-digit w v x h p q = inl (omega (arith, h, p), p ∙ sym q)

worth : (b : ℕ) → b < 256 → Worth (digit_word b) (digit_value b)
worth b h =
    let x = truth (nat_lt 57 b) in
    let y = truth (nat_lt 64 b) in
    let z = truth (nat_lt 96 b) in
    elim (cases_lt b 48) [
      | inl p ↦ inr (before-digits b x y z p (clear-bit 57 b (omega (arith, p))) (clear-bit 64 b (omega (arith, p))) (clear-bit 96 b (omega (arith, p))), (let v = value-before b p in omega (arith, v)))
      | inr p ↦ elim (cases_lt b 58) [
        | inl q ↦ is-digit (digit_word b) (digit_value b) (b - 48) (omega (arith, p, q)) (decimal-digit b x y z p q (clear-bit 57 b (omega (arith, q))) (clear-bit 64 b (omega (arith, q))) (clear-bit 96 b (omega (arith, q)))) (value-decimal b p q)
        | inr q ↦ elim (cases_lt b 65) [
          | inl r ↦ inr (behind-digits b x y z q r (set-bit 57 b (omega (arith, q))) (clear-bit 64 b (omega (arith, r))) (clear-bit 96 b (omega (arith, r))), (let v = value-behind b q r in omega (arith, v)))
          | inr r ↦ from-letters b h r
        ]
      ]
    ]
  where
    from-lower : (b : ℕ) → b < 256 → 97 ≤ b → Worth (digit_word b) (digit_value b)
    from-lower b h r =
        let x = truth (nat_lt 57 b) in
        let y = truth (nat_lt 64 b) in
        let z = truth (nat_lt 96 b) in
        let one = set-bit 57 b (omega (arith, r)) in
        let two = set-bit 64 b (omega (arith, r)) in
        let three = set-bit 96 b (omega (arith, r)) in
        elim (cases_lt b 103) [
          | inl p ↦ is-digit (digit_word b) (digit_value b) (b - 87) (omega (arith, r, p)) (lower-digit b x y z r p one two three) (value-lower b r (omega (arith, p)))
          | inr p ↦ elim (cases_lt b 123) [
            | inl q ↦ inr (behind-lower b x y z p h one two three, (let v = value-lower b r q in omega (arith, v, p)))
            | inr q ↦ inr (behind-lower b x y z p h one two three, (let v = value-past b q in omega (arith, v)))
          ]
        ]

    from-letters : (b : ℕ) → b < 256 → 65 ≤ b → Worth (digit_word b) (digit_value b)
    from-letters b h r =
        let x = truth (nat_lt 57 b) in
        let y = truth (nat_lt 64 b) in
        let z = truth (nat_lt 96 b) in
        let one = set-bit 57 b (omega (arith, r)) in
        let two = set-bit 64 b (omega (arith, r)) in
        elim (cases_lt b 71) [
          | inl p ↦ is-digit (digit_word b) (digit_value b) (b - 55) (omega (arith, r, p)) (upper-digit b x y z r p one two (clear-bit 96 b (omega (arith, p)))) (value-upper b r (omega (arith, p)))
          | inr p ↦ elim (cases_lt b 97) [
            | inl q ↦ elim (cases_lt b 91) [
              | inl s ↦ inr (behind-upper b x y z p q one two (clear-bit 96 b (omega (arith, q))), (let v = value-upper b r s in omega (arith, v, p)))
              | inr s ↦ inr (behind-upper b x y z p q one two (clear-bit 96 b (omega (arith, q))), (let v = value-between b s q in omega (arith, v)))
            ]
            | inr q ↦ from-lower b h q
          ]
        ]

-- the routine's test whether it is a digit of a radix
test-so : (w v r : ℕ) → r ≤ 16 → Worth w v → nat_lt w r ≡ nat_lt v r
test-so w v r h (inl k) = ap (λ n. nat_lt n r) k.1
test-so w v r h (inr k) = neither w v r h k.0 k.1
  where
    neither : (w v r : ℕ) → r ≤ 16 → 16 ≤ w → 16 ≤ v → nat_lt w r ≡ nat_lt v r
    neither w v r h p q = grind (arith, nat_tests, h, p, q)

radix-small : (x : Bool) → radix_of x ≤ 16
radix-small true = omega arith
radix-small false = omega arith

pub is-digit-so : (b : ℕ) (x : Bool) → b < 256 → nat_lt (digit_word b) (radix_of x) ≡ nat_lt (digit_value b) (radix_of x)
is-digit-so b x h = test-so (digit_word b) (digit_value b) (radix_of x) (radix-small x) (worth b h)

-- and what it is worth, where it is one
pub digit-worth : (b : ℕ) (x : Bool) → b < 256 → digit_value b < radix_of x → digit_word b ≡ digit_value b
digit-worth b x h small = by (worth b h)
  where
    by : Worth (digit_word b) (digit_value b) → digit_word b ≡ digit_value b
    by (inl k) = k.1
    by (inr k) = let r = radix-small x in absurd (omega (arith, k.1, small, r))

-- ---- one more digit

abbrev pub low_grown : ℕ → ℕ → ℕ → ℕ
low_grown l r d = wrapping_add w16 (wrapping_mul w16 l r) d

abbrev pub high_grown : ℕ → ℕ → ℕ → ℕ → ℕ
high_grown h l r d = wrapping_add w16 (wrapping_add w16 (wrapping_mul w16 h r) (high_product w16 l r)) (truth (nat_lt (low_grown l r d) d))

-- the sum passed 16 bits, or not
abbrev Carries : ℕ → ℕ → ℕ → Type 0
Carries s d c = ((s < d) × (c ≡ 1)) ⊎ ((d ≤ s) × (c ≡ 0))

carry-decided : (s d : ℕ) → Carries s d (truth (nat_lt s d))
carry-decided s d = elim (cases_lt s d) [ inl h ↦ inl (h, set-bit s d h) | inr h ↦ inr (h, clear-bit s d h) ]

-- the words of m times the radix, and a digit
abbrev Grown : ℕ → ℕ → ℕ → ℕ → ℕ → Type 0
Grown l h r d c = (low_grown l r d ≡ ((l + 65536 * h) * r + d) % 65536) × (wrapping_add w16 (wrapping_add w16 (wrapping_mul w16 h r) (high_product w16 l r)) c ≡ ((l + 65536 * h) * r + d) / 65536)

grown-10 : (l h d c : ℕ) → l < 65536 → h < 3277 → d < 10 → Carries (low_grown l 10 d) d c → Grown l h 10 d c
grown-10 l h d c p q s (inl k) = (omega (arith, p, q, s), omega (arith, p, q, s, k.0, k.1))
grown-10 l h d c p q s (inr k) = (omega (arith, p, q, s), omega (arith, p, q, s, k.0, k.1))

grown-16 : (l h d c : ℕ) → l < 65536 → h < 3277 → d < 16 → Carries (low_grown l 16 d) d c → Grown l h 16 d c
grown-16 l h d c p q s (inl k) = (omega (arith, p, q, s), omega (arith, p, q, s, k.0, k.1))
grown-16 l h d c p q s (inr k) = (omega (arith, p, q, s), omega (arith, p, q, s, k.0, k.1))

pub grown : (x : Bool) (m d : ℕ) → m / 65536 < 3277 → d < radix_of x →
    (low_grown (m % 65536) (radix_of x) d ≡ (m * radix_of x + d) % 65536) × (high_grown (m / 65536) (m % 65536) (radix_of x) d ≡ (m * radix_of x + d) / 65536)
grown x m d h s =
    let whole : m % 65536 + 65536 * (m / 65536) ≡ m = omega arith in
    let g = by x s in
    (g.0 ∙ ap (λ v. (v * radix_of x + d) % 65536) whole, g.1 ∙ ap (λ v. (v * radix_of x + d) / 65536) whole)
  where
    by : (x : Bool) → d < radix_of x → Grown (m % 65536) (m / 65536) (radix_of x) d (truth (nat_lt (low_grown (m % 65536) (radix_of x) d) d))
    by true s = grown-16 (m % 65536) (m / 65536) d (truth (nat_lt (low_grown (m % 65536) 16 d) d)) (omega arith) h s (carry-decided (low_grown (m % 65536) 16 d) d)
    by false s = grown-10 (m % 65536) (m / 65536) d (truth (nat_lt (low_grown (m % 65536) 10 d) d)) (omega arith) h s (carry-decided (low_grown (m % 65536) 10 d) d)

-- ---- LongInt's bounds

-- with an upper word above 3276 no digit may follow
pub too-much : (n x : Bool) (m d : ℕ) → 3277 ≤ m / 65536 → nat_le (m * radix_of x + d) (greatest_magnitude n) ≡ false
too-much n x m d h = passes (m * radix_of x + d) n (by x)
  where
    by : (x : Bool) → 2147483648 < m * radix_of x + d
    by true = omega (arith, h)
    by false = omega (arith, h)

    passes : (t : ℕ) (n : Bool) → 2147483648 < t → nat_le t (greatest_magnitude n) ≡ false
    passes t true h = grind (arith, nat_tests, h)
    passes t false h = grind (arith, nat_tests, h)

fits-words : (n : Bool) (l h : ℕ) → l < 65536 → (nat_lt h 32768 || (((h == 32768) && (l == 0)) && n)) ≡ nat_le (l + 65536 * h) (greatest_magnitude n)
fits-words true l h p = grind (arith, nat_tests, p)
fits-words false l h p = grind (arith, nat_tests, p)

pub fits-so : (n : Bool) (t : ℕ) → bit_or (truth (nat_lt (t / 65536) 32768)) (bit_and (bit_and (truth (t / 65536 == 32768)) (truth (t % 65536 == 0))) (truth n)) ≡ truth (nat_le t (greatest_magnitude n))
fits-so n t =
    let h = t / 65536 in
    let l = t % 65536 in
    let whole : l + 65536 * h ≡ t = omega arith in
    ap (λ v. bit_or (truth (nat_lt h 32768)) (bit_and v (truth n))) (and-bits (h == 32768) (l == 0))
    ∙ ap (λ v. bit_or (truth (nat_lt h 32768)) v) (and-bits ((h == 32768) && (l == 0)) n)
    ∙ or-bits (nat_lt h 32768) (((h == 32768) && (l == 0)) && n)
    ∙ ap truth (fits-words n l h (omega arith))
    ∙ ap (λ v. truth (nat_le v (greatest_magnitude n))) whole
