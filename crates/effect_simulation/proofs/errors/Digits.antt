-- The decimal digits of a code, made from the last one on.
use Rattle.std.proofs.Common.{◌≡◌, ℕ, zero, suc, ◌+◌, ◌*◌, ◌/◌, ◌%◌, ◌==◌, Bool, true, false, List, [], ◌∷◌, ◌++◌, arith, refl, ap, ◌∙◌}
use Rattle.std.specs.Prelude.{if◌then◌else◌}
use Rattle.std.specs.Fmt.{decimal, digit_glyph, digits, digits_onto}
use Rattle.std.proofs.lemmas.Bool.{lt-ltb, eq-eqb, ne_eqb}

-- one more than the greatest number with so many digits
abbrev pub tens : ℕ → ℕ
tens zero = 1
tens (suc k) = 10 * tens k

abbrev pub digits_before : ℕ → ℕ → List ℕ → List ℕ
digits_before m n acc = digits_onto m 10 false n acc

pub glyph_is : (n : ℕ) → digit_glyph false (n % 10) ≡ 48 + n % 10
glyph_is n = ap (λ b. if b then 48 + n % 10 else 87 + n % 10) (lt-ltb (n % 10) 10 (omega arith))

pub last_digit : (m n : ℕ) (acc : List ℕ) → n / 10 ≡ 0 → digits_before (suc m) n acc ≡ (48 + n % 10) ∷ acc
last_digit m n acc e =
    ap (λ b. if b then digit_glyph false (n % 10) ∷ acc else digits_before m (n / 10) (digit_glyph false (n % 10) ∷ acc)) (eq-eqb (n / 10) 0 e)
    ∙ ap (λ d. d ∷ acc) (glyph_is n)

pub more_digits : (m n : ℕ) (acc : List ℕ) → (n / 10 ≡ 0 → ⊥) → digits_before (suc m) n acc ≡ digits_before m (n / 10) ((48 + n % 10) ∷ acc)
more_digits m n acc ne =
    ap (λ b. if b then digit_glyph false (n % 10) ∷ acc else digits_before m (n / 10) (digit_glyph false (n % 10) ∷ acc)) (ne_eqb (n / 10) 0 ne)
    ∙ ap (λ d. digits_before m (n / 10) (d ∷ acc)) (glyph_is n)

-- what stands behind stays there
pub digits_append : (m n : ℕ) (acc rest : List ℕ) → digits_before m n (acc ++ rest) ≡ digits_before m n acc ++ rest
digits_append zero n acc rest = refl
digits_append (suc m) n acc rest = by (n / 10 == 0) (digits_append m (n / 10) (digit_glyph false (n % 10) ∷ acc) rest)
  where
    g : ℕ
    g = digit_glyph false (n % 10)

    by : (b : Bool) → digits_before m (n / 10) ((g ∷ acc) ++ rest) ≡ digits_before m (n / 10) (g ∷ acc) ++ rest → (if b then (g ∷ (acc ++ rest)) else digits_before m (n / 10) (g ∷ (acc ++ rest))) ≡ (if b then (g ∷ acc) else digits_before m (n / 10) (g ∷ acc)) ++ rest
    by true e = refl
    by false e = e

none_before : (n : ℕ) → digits_before 64 n [] ≡ decimal n
unfolding digits
none_before n = refl

pub decimal_before : (n : ℕ) (rest : List ℕ) → digits_before 64 n rest ≡ decimal n ++ rest
decimal_before n rest = digits_append 64 n [] rest ∙ ap (λ d. d ++ rest) (none_before n)
