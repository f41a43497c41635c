-- What a string takes of an input, byte by byte.
use Rattle.std.proofs.Common.{◌≡◌, ℕ, zero, suc, ◌+◌, ◌<◌, ◌≤◌, Bool, true, false, List, [], ◌∷◌, length, take, drop, cond, refl, sym, ap, subst, ◌∙◌, arith}
use Rattle.std.specs.Prelude.{◌==◌, ◌||◌, not, min, bit_or}
use Rattle.std.specs.List.{prefix_len}
use Rattle.common_values.specs.Input.{is_text_byte, string_length, string_read}
use Rattle.flat_code.specs.Meaning.{truth}
use Rattle.rt_text.proofs.read_text.InputLemmas.{either-bit}

-- the byte ends a line or the input
abbrev pub ends : ℕ → Bool
ends b = ((b == 13) || (b == 10)) || (b == 26)

abbrev pub text_of : ℕ → List ℕ → List ℕ
text_of zero left = []
text_of (suc r) [] = []
text_of (suc r) (b ∷ rest) = cond (ends b) [] (b ∷ text_of r rest)

abbrev pub rest_of : ℕ → List ℕ → List ℕ
rest_of zero left = left
rest_of (suc r) [] = []
rest_of (suc r) (b ∷ rest) = cond (ends b) (b ∷ rest) (rest_of r rest)

pub ends-bits : (b : ℕ) → bit_or (bit_or (truth (b == 13)) (truth (b == 10))) (truth (b == 26)) ≡ truth (ends b)
ends-bits b = ap (λ v. bit_or v (truth (b == 26))) (either-bit (b == 13) (b == 10)) ∙ either-bit ((b == 13) || (b == 10)) (b == 26)

-- ---- the same as values says it

min-step : (r k : ℕ) → min (suc r) (1 + k) ≡ suc (min r k)
min-step r k = omega arith

min-none : (r : ℕ) → min r 0 ≡ 0
min-none r = omega arith

length-zero : (left : List ℕ) → string_length zero left ≡ 0
length-zero left = omega arith

length-none : (r b : ℕ) (rest : List ℕ) → ends b ≡ true → string_length (suc r) (b ∷ rest) ≡ 0
length-none r b rest e = ap (λ t. min (suc r) (cond (not t) (1 + prefix_len is_text_byte rest) 0)) e ∙ min-none (suc r)

length-more : (r b : ℕ) (rest : List ℕ) → ends b ≡ false → string_length (suc r) (b ∷ rest) ≡ suc (string_length r rest)
length-more r b rest e = ap (λ t. min (suc r) (cond (not t) (1 + prefix_len is_text_byte rest) 0)) e ∙ min-step r (prefix_len is_text_byte rest)

pub text-is : (r : ℕ) (left : List ℕ) → text_of r left ≡ (string_read r left).0
text-is zero left = sym (ap (λ n. take n left) (length-zero left))
text-is (suc r) [] = sym (ap (λ n. take n []) (min-none (suc r)))
text-is (suc r) (b ∷ rest) = by (ends b) refl (text-is r rest)
  where
    by : (t : Bool) → ends b ≡ t → text_of r rest ≡ (string_read r rest).0 → cond (ends b) [] (b ∷ text_of r rest) ≡ take (string_length (suc r) (b ∷ rest)) (b ∷ rest)
    by true e h = ap (λ t. cond t [] (b ∷ text_of r rest)) e ∙ sym (ap (λ n. take n (b ∷ rest)) (length-none r b rest e))
    by false e h = ap (λ t. cond t [] (b ∷ text_of r rest)) e ∙ ap (λ l. b ∷ l) h ∙ sym (ap (λ n. take n (b ∷ rest)) (length-more r b rest e))

pub rest-is : (r : ℕ) (left : List ℕ) → rest_of r left ≡ (string_read r left).1
rest-is zero left = sym (ap (λ n. drop n left) (length-zero left))
rest-is (suc r) [] = sym (ap (λ n. drop n []) (min-none (suc r)))
rest-is (suc r) (b ∷ rest) = by (ends b) refl (rest-is r rest)
  where
    by : (t : Bool) → ends b ≡ t → rest_of r rest ≡ (string_read r rest).1 → cond (ends b) (b ∷ rest) (rest_of r rest) ≡ drop (string_length (suc r) (b ∷ rest)) (b ∷ rest)
    by true e h = ap (λ t. cond t (b ∷ rest) (rest_of r rest)) e ∙ sym (ap (λ n. drop n (b ∷ rest)) (length-none r b rest e))
    by false e h = ap (λ t. cond t (b ∷ rest) (rest_of r rest)) e ∙ h ∙ sym (ap (λ n. drop n (b ∷ rest)) (length-more r b rest e))

pub text-length : (r : ℕ) (left : List ℕ) → length (text_of r left) ≤ r
text-length zero left = omega arith
text-length (suc r) [] = omega arith
text-length (suc r) (b ∷ rest) = by (ends b) (text-length r rest)
  where
    by : (t : Bool) → length (text_of r rest) ≤ r → length (cond t [] (b ∷ text_of r rest)) ≤ suc r
    by true h = omega arith
    by false h = omega (arith, h)
