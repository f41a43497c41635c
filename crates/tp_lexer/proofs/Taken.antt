-- What is taken at the front of a text stands in the grammar.
use Rattle.std.proofs.Common.{◌≡◌, ◌⊎◌, inl, inr, ℕ, ◌+◌, ◌<◌, Bool, true, false, cond, ◌&&◌, ◌||◌, eqb, ltb, List, [], ◌∷◌, ◌++◌, length, take, drop, get_or, refl, ap, sym, ◌∙◌, arith, length-append}
use Rattle.std.specs.List.{prefix_len}
use Rattle.std.specs.Char.{is_ascii_digit, is_ascii_hexdigit}
use Rattle.std.proofs.lemmas.Bool.Decides.{nat_tests}
use Rattle.tp_lexer.specs.Characters.{is_letter, is_word_byte}
use Rattle.tp_lexer.specs.Shapes.{extent, number_extent, fraction_len, sign_len, exponent_len}
use Rattle.tp_lexer.specs.Grammar.{AreDigits, IsFraction, is_sign, IsExponent, IsRead}
use Rattle.tp_lexer.specs.declared.shape.Shape.{Shape}
use Rattle.tp_lexer.specs.declared.shape.Shape.TheVariants as s
use Rattle.tp_lexer.specs.declared.shape.Extent.{Extent}
use Rattle.tp_lexer.proofs.Prefixes.{and_left, and_right, take_more, drop_more, prefix_passes}
use Rattle.tp_lexer.proofs.Leads.{take_take}

-- a spelling of this shape stands in the grammar; one of the shape Other is a byte
abbrev pub IsPrefix : Shape → List ℕ → Type 0
IsPrefix s.Other spelling = length spelling ≡ 1
IsPrefix shape spelling = IsRead shape spelling

abbrev pub IsSound : List ℕ → Extent → Type 0
IsSound bytes e = IsPrefix e.shape (take e.length bytes)

pub sound_by : (P : Extent → Type 0) (b : Bool) (x y : Extent) → (b ≡ true → P x) → (b ≡ false → P y) → P (cond b x y)
sound_by P true x y left right = left refl
sound_by P false x y left right = right refl

pub word_sound : (c : ℕ) (cs : List ℕ) → is_letter c ≡ true → IsSound (c ∷ cs) (extent s.Word (prefix_len is_word_byte (c ∷ cs)))
word_sound c cs letter =
    let n = prefix_len is_word_byte cs in
    let first : is_word_byte c ≡ true = ap (λ (b : Bool). b || is_ascii_digit c) letter in
    let long : prefix_len is_word_byte (c ∷ cs) ≡ 1 + n = ap (λ (b : Bool). cond b (1 + n) 0) first in
    record {
      first = c;
      more = take n cs;
      spelled = ap (λ (m : ℕ). take m (c ∷ cs)) long ∙ take_more n c cs;
      begins = letter;
      goes_on = prefix_passes is_word_byte cs;
    }

some_digits : (c : ℕ) (cs : List ℕ) → is_ascii_digit c ≡ true → AreDigits (take (prefix_len is_ascii_digit (c ∷ cs)) (c ∷ cs))
some_digits c cs digit =
    let n = prefix_len is_ascii_digit cs in
    let long : prefix_len is_ascii_digit (c ∷ cs) ≡ 1 + n = ap (λ (b : Bool). cond b (1 + n) 0) digit in
    let whole : take (prefix_len is_ascii_digit (c ∷ cs)) (c ∷ cs) ≡ c ∷ take n cs = ap (λ (m : ℕ). take m (c ∷ cs)) long ∙ take_more n c cs in
    record { some = let h = ap length whole in omega arith; each = prefix_passes is_ascii_digit (c ∷ cs) }

first_passes : (b : Bool) (n : ℕ) → 0 < cond b (1 + n) 0 → b ≡ true
first_passes true n some = refl
first_passes false n some = absurd (omega arith)

-- digits at the front of a text, where there are any
digits_there : (bytes : List ℕ) → 0 < prefix_len is_ascii_digit bytes → AreDigits (take (prefix_len is_ascii_digit bytes) bytes)
digits_there [] some = absurd (omega arith)
digits_there (c ∷ cs) some = some_digits c cs (first_passes (is_ascii_digit c) (prefix_len is_ascii_digit cs) some)

fraction_by : (c : ℕ) (cs : List ℕ) (b : Bool) → (eqb c 46 && is_ascii_digit (get_or (c ∷ cs) 1 0)) ≡ b → (cond b (1 + prefix_len is_ascii_digit cs) 0 ≡ 0) ⊎ IsFraction (take (cond b (1 + prefix_len is_ascii_digit cs) 0) (c ∷ cs))
fraction_by c cs false is = inl refl
fraction_by c [] true is = absurd (let h = and_right (eqb c 46) false is in let k : false ≡ true = h in cc)
fraction_by c (d ∷ ds) true is =
    let n = prefix_len is_ascii_digit (d ∷ ds) in
    let dot : c ≡ 46 = grind (arith, nat_tests, and_left (eqb c 46) (is_ascii_digit d) is) in
    inr (record {
      digits = take n (d ∷ ds);
      spelled = take_more n c (d ∷ ds) ∙ ap (λ (x : ℕ). x ∷ take n (d ∷ ds)) dot;
      are_digits = some_digits d ds (and_right (eqb c 46) (is_ascii_digit d) is);
    })

pub fraction_sound : (bytes : List ℕ) → (fraction_len bytes ≡ 0) ⊎ IsFraction (take (fraction_len bytes) bytes)
fraction_sound [] = inl refl
fraction_sound (c ∷ cs) = fraction_by c cs (eqb c 46 && is_ascii_digit (get_or (c ∷ cs) 1 0)) refl

sign_by : (c : ℕ) (cs : List ℕ) (b : Bool) → (eqb c 43 || eqb c 45) ≡ b → is_sign (take (cond b 1 0) (c ∷ cs)) ≡ true
sign_by c cs true is = is
sign_by c cs false is = refl

-- a sign at the front of a text, where there is one
sign_there : (bytes : List ℕ) → is_sign (take (sign_len bytes) bytes) ≡ true
sign_there [] = refl
sign_there (c ∷ cs) = sign_by c cs (eqb c 43 || eqb c 45) refl

exponent_by : (c : ℕ) (cs : List ℕ) (b : Bool) → ((eqb c 69 || eqb c 101) && ltb 0 (prefix_len is_ascii_digit (drop (1 + sign_len cs) (c ∷ cs)))) ≡ b →
    (cond b (1 + sign_len cs + prefix_len is_ascii_digit (drop (1 + sign_len cs) (c ∷ cs))) 0 ≡ 0)
    ⊎ IsExponent (take (cond b (1 + sign_len cs + prefix_len is_ascii_digit (drop (1 + sign_len cs) (c ∷ cs))) 0) (c ∷ cs))
exponent_by c cs false is = inl refl
exponent_by c cs true is =
    let sign = sign_len cs in
    let rest = drop (1 + sign) (c ∷ cs) in
    let same : rest ≡ drop sign cs = drop_more sign c cs in
    let n = prefix_len is_ascii_digit rest in
    let e = and_left (eqb c 69 || eqb c 101) (ltb 0 n) is in
    let there = and_right (eqb c 69 || eqb c 101) (ltb 0 n) is in
    let some : 0 < n = grind (arith, nat_tests) in
    let parts : take (1 + sign) (c ∷ cs) ++ take n rest ≡ take (1 + sign + n) (c ∷ cs) = take_take (1 + sign) n (c ∷ cs) in
    inr (record {
      letter = c;
      sign = take sign cs;
      digits = take n rest;
      spelled = sym parts ∙ ap (λ (t : List ℕ). t ++ take n rest) (take_more sign c cs);
      is_e = e;
      signed = sign_there cs;
      are_digits = digits_there rest some;
    })

pub exponent_sound : (bytes : List ℕ) → (exponent_len bytes ≡ 0) ⊎ IsExponent (take (exponent_len bytes) bytes)
exponent_sound [] = inl refl
exponent_sound (c ∷ cs) = exponent_by c cs _ refl

none_or : (n : ℕ) (bytes : List ℕ) (P : List ℕ → Type 0) → (n ≡ 0) ⊎ P (take n bytes) → (take n bytes ≡ []) ⊎ P (take n bytes)
none_or n bytes P (inl none) = inl (ap (λ (m : ℕ). take m bytes) none)
none_or n bytes P (inr p) = inr p

fraction_some : (f : List ℕ) → IsFraction f → 0 < length f
fraction_some f is = let h = ap length is.spelled in omega arith

exponent_some : (x : List ℕ) → IsExponent x → 0 < length x
exponent_some x is = let h = ap length is.spelled in omega arith

parts_some : (f x : ℕ) (fraction exponent : List ℕ) → 0 < f + x → (f ≡ 0) ⊎ IsFraction fraction → (x ≡ 0) ⊎ IsExponent exponent → 0 < length (fraction ++ exponent)
parts_some f x fraction exponent some (inl a) (inl b) = absurd (omega arith)
parts_some f x fraction exponent some (inr is) right = let h = fraction_some fraction is in omega (arith, length-append fraction exponent)
parts_some f x fraction exponent some (inl a) (inr is) = let h = exponent_some exponent is in omega (arith, length-append fraction exponent)

pub number_sound : (c : ℕ) (cs : List ℕ) → is_ascii_digit c ≡ true → IsSound (c ∷ cs) (number_extent (c ∷ cs))
number_sound c cs digit =
    let bytes : List ℕ = c ∷ cs in
    let d = prefix_len is_ascii_digit bytes in
    let rest = drop d bytes in
    let f = fraction_len rest in
    let x = exponent_len (drop f rest) in
    let fraction = take f rest in
    let exponent = take x (drop f rest) in
    let are = some_digits c cs digit in
    sound_by (IsSound bytes) (eqb (f + x) 0) (extent s.Decimal d) (extent s.Real (d + f + x)) (λ _. are)
    (λ is.
    let some : 0 < f + x = grind (arith, nat_tests) in
    let sum : d + f + x ≡ d + (f + x) = omega arith in
    let tail : fraction ++ exponent ≡ take (f + x) rest = take_take f x rest in
    let whole : take d bytes ++ take (f + x) rest ≡ take (d + (f + x)) bytes = take_take d (f + x) bytes in
    record {
      digits = take d bytes;
      fraction = fraction;
      exponent = exponent;
      spelled = ap (λ (n : ℕ). take n bytes) sum ∙ sym whole ∙ ap (λ (t : List ℕ). take d bytes ++ t) (sym tail);
      are_digits = are;
      fractional = none_or f rest IsFraction (fraction_sound rest);
      scaled = none_or x (drop f rest) IsExponent (exponent_sound (drop f rest));
      some = parts_some f x fraction exponent some (fraction_sound rest) (exponent_sound (drop f rest));
    })

pub hexadecimal_sound : (cs : List ℕ) → IsSound (36 ∷ cs) (extent s.Hexadecimal (1 + prefix_len is_ascii_hexdigit cs))
hexadecimal_sound cs = record { digits = take (prefix_len is_ascii_hexdigit cs) cs; spelled = take_more (prefix_len is_ascii_hexdigit cs) 36 cs; each = prefix_passes is_ascii_hexdigit cs }
