-- Long division in twos: what rounds of shifting and subtracting leave.
use Rattle.std.proofs.Common.{◌≡◌, ℕ, ◌+◌, ◌*◌, ◌/◌, ◌%◌, ◌<◌, ◌⊎◌, inl, inr, sym, ap, ◌∙◌, arith}
use Rattle.std.proofs.lemmas.Nat.{div-mul-add, mod-mul-add}

-- From n and r some rounds come to `quotient` and `rest`, where `power` is as many times 2 as rounds, and `weight` times that is 2 to the 32nd: the upper bits of n stand behind r and are divided by m; the quotient comes in from below.
pub record Divides (power weight m n r quotient rest : ℕ) : Type 0 where
  pub upper : ℕ
  pub lower : ℕ
  pub times : ℕ
  pub parts : n ≡ upper * weight + lower
  pub small : lower < weight
  pub divided : r * power + upper ≡ times * m + rest
  pub less : rest < m
  pub result : quotient ≡ lower * power + times

-- no round
pub nothing-divided : (m n r : ℕ) → n < 4294967296 → r < m → Divides 1 4294967296 m n r n r
nothing-divided m n r p q = record {
  upper = 0;
  lower = n;
  times = 0;
  parts = omega arith;
  small = p;
  divided = omega arith;
  less = q;
  result = omega arith;
}

-- a bit and so many times a number
abbrev pub IsBit : ℕ → ℕ → ℕ → Type 0
IsBit m bit off = ((bit ≡ 0) × (off ≡ 0)) ⊎ ((bit ≡ 1) × (off ≡ m))

-- the top bit of n goes into r, and where m fits there it is taken off, and n gets a bit
pub record Round (m n r n' r' : ℕ) : Type 0 where
  pub top : ℕ
  pub bit : ℕ
  pub off : ℕ
  pub left : ℕ
  pub top_is : (top ≡ 0) ⊎ (top ≡ 1)
  pub bit_is : IsBit m bit off
  pub taken : n ≡ 2147483648 * top + left
  pub small : left < 2147483648
  pub shifted : n' ≡ 2 * left + bit
  pub rest : 2 * r + top ≡ off + r'

-- the same bit from both sides
same-bit : (a b c d : ℕ) → b < 2 → d < 2 → 2 * a + b ≡ 2 * c + d → (b ≡ d) × (a ≡ c)
same-bit a b c d p q e = (omega (arith, p, q, e), omega (arith, p, q, e))

-- one more round
pub one-round : (power half m n r n' r' quotient rest : ℕ) → power * (2 * half) ≡ 4294967296 → Round m n r n' r' → Divides power (2 * half) m n' r' quotient rest → Divides (2 * power) half m n r quotient rest
one-round power half m n r n' r' quotient rest whole round d = by round.top_is round.bit_is
  where
    h : ℕ
    h = d.lower / 2

    b : ℕ
    b = d.lower % 2

    lower_is : d.lower ≡ 2 * h + b
    lower_is = omega arith

    h_small : h < half
    h_small = omega (arith, d.small)

    bits : round.bit < 2 → (round.bit ≡ b) × (round.left ≡ d.upper * half + h)
    bits p =
        let q : b < 2 = omega arith in
        let e : 2 * round.left + round.bit ≡ 2 * (d.upper * half + h) + b = omega (arith, round.shifted, d.parts, lower_is) in
        same-bit round.left round.bit (d.upper * half + h) b p q e

    made : (top bit off : ℕ) → round.top ≡ top → round.bit ≡ bit → round.off ≡ off → (upper times : ℕ) → upper ≡ top * power + d.upper → times ≡ bit * power + d.times → upper * half ≡ 2147483648 * top + d.upper * half → times * m ≡ off * power + d.times * m → bit < 2 → Divides (2 * power) half m n r quotient rest
    made top bit off t u v upper times up ti uh tm two =
        let same = bits (omega (arith, u, two)) in
        let scaled : (2 * r + top) * power ≡ (off + r') * power = ap (λ x. x * power) (omega (arith, round.rest, t, v)) in
        let lowered : d.lower * power ≡ (2 * h + bit) * power = ap (λ x. x * power) (omega (arith, lower_is, same.0, u)) in
        record {
          upper = upper;
          lower = h;
          times = times;
          parts = omega (arith, round.taken, t, same.1, uh);
          small = h_small;
          divided = omega (arith, scaled, up, tm, d.divided);
          less = d.less;
          result = omega (arith, d.result, lowered, ti);
        }

    by : (round.top ≡ 0) ⊎ (round.top ≡ 1) → IsBit m round.bit round.off → Divides (2 * power) half m n r quotient rest
    by (inl t) (inl k) = made 0 0 0 t k.0 k.1 d.upper d.times (omega arith) (omega arith) (omega arith) (omega arith) (omega arith)
    by (inl t) (inr k) = made 0 1 m t k.0 k.1 d.upper (power + d.times) (omega arith) (omega arith) (omega arith) (omega arith) (omega arith)
    by (inr t) (inl k) = made 1 0 0 t k.0 k.1 (power + d.upper) d.times (omega arith) (omega arith) (omega (arith, whole)) (omega arith) (omega arith)
    by (inr t) (inr k) = made 1 1 m t k.0 k.1 (power + d.upper) (power + d.times) (omega arith) (omega arith) (omega (arith, whole)) (omega arith) (omega arith)

-- all 32 rounds
pub all-divided : (m n quotient rest : ℕ) → Divides 4294967296 1 m n 0 quotient rest → (quotient ≡ n / m) × (rest ≡ n % m)
all-divided m n quotient rest d =
    let none : d.lower ≡ 0 = omega (arith, d.small) in
    let zero_power : d.lower * 4294967296 ≡ 0 = omega (arith, none) in
    let q : quotient ≡ d.times = omega (arith, d.result, zero_power) in
    let e : n ≡ d.times * m + rest = omega (arith, d.parts, d.divided, none) in
    (q ∙ sym (ap (λ x. x / m) e ∙ div-mul-add d.times m rest d.less), sym (ap (λ x. x % m) e ∙ mod-mul-add d.times m rest d.less))
