-- Names of files, letter by letter.
use Rattle.std.proofs.Common.{◌≡◌, ℕ, suc, ◌<◌, Bool, true, false, List, [], ◌∷◌, length, map, refl, ap, ◌∙◌, arith}
use Rattle.std.specs.Prelude.{nat_lt, ◌==◌, ◌&&◌, bit_and}
use Rattle.std.proofs.lemmas.Bool.Decides.{nat_tests}
use Rattle.common_values.specs.integers.Words.{w16, wrapping_sub, wrapping_mul}
use Rattle.type_layout.specs.Words.{same_bytes}
use Rattle.common_values.specs.Strings.{upper}
use Rattle.flat_code.specs.Meaning.{truth}

pub both-bits : (p q : Bool) → bit_and (truth p) (truth q) ≡ truth (p && q)
both-bits true true = refl
both-bits true false = refl
both-bits false true = refl
both-bits false false = refl

-- a byte as its upper-case letter, as the routine computes it
pub capital-is : (c : ℕ) → c < 256 → wrapping_sub w16 c (wrapping_mul w16 32 (bit_and (truth (nat_lt 96 c)) (truth (nat_lt c 123)))) ≡ upper c
capital-is c h = ap (λ t. wrapping_sub w16 c (wrapping_mul w16 32 t)) (both-bits (nat_lt 96 c) (nat_lt c 123)) ∙ decided c h
  where
    decided : (c : ℕ) → c < 256 → wrapping_sub w16 c (wrapping_mul w16 32 (truth (nat_lt 96 c && nat_lt c 123))) ≡ upper c
    decided c h = grind (arith, nat_tests)

and-false : (b : Bool) → (b && false) ≡ false
and-false true = refl
and-false false = refl

-- texts of other lengths differ
pub differ : (name text : List ℕ) → (length name ≡ length text → ⊥) → same_bytes name (map upper text) ≡ false
differ [] [] ne = absurd (ne refl)
differ [] (y ∷ text) ne = refl
differ (x ∷ name) [] ne = refl
differ (x ∷ name) (y ∷ text) ne = ap (λ b. (x == upper y) && b) (differ name text (λ e. ne (ap suc e))) ∙ and-false (x == upper y)

pub length-same : (n k : ℕ) → n ≡ k → 0 < k → truth ((n == k) && nat_lt 0 k) ≡ 1
length-same n k e h = grind (arith, nat_tests)

pub length-differs : (n k : ℕ) → (n ≡ k → ⊥) → truth ((n == k) && nat_lt 0 k) ≡ 0
length-differs n k ne = grind (arith, nat_tests)

pub length-none : (n : ℕ) → truth ((n == 0) && nat_lt 0 0) ≡ 0
length-none n = grind (arith, nat_tests)
