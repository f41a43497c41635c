-- No longer front of a text stands in the grammar than what is taken.
use Rattle.std.proofs.Common.{◌≡◌, ◌⊎◌, inl, inr, ℕ, ◌+◌, ◌<◌, ◌≤◌, Bool, true, false, cond, ◌&&◌, ◌||◌, eqb, ltb, List, [], ◌∷◌, ◌++◌, length, drop, refl, ap, sym, ◌∙◌, subst, arith, append_assoc, length-append, append-nil, get_or}
use Rattle.std.specs.List.{prefix_len, list_all}
use Rattle.std.specs.Char.{is_ascii_digit, is_ascii_hexdigit}
use Rattle.std.proofs.Math.Nat.{eq-or-lt_of_le}
use Rattle.std.proofs.lemmas.Bool.Decides.{nat_tests}
use Rattle.tp_lexer.specs.Characters.{is_letter, is_word_byte, is_blank}
use Rattle.tp_lexer.specs.Shapes.{extent, number_extent, fraction_len, sign_len, exponent_len}
use Rattle.tp_lexer.specs.Pieces.{shape_at}
use Rattle.tp_lexer.specs.Grammar.{IsBlank, IsWord, AreDigits, IsFraction, is_sign, IsExponent, IsReal, IsHexadecimal}
use Rattle.tp_lexer.specs.declared.shape.Shape.{Shape}
use Rattle.tp_lexer.specs.declared.shape.Shape.TheVariants as s
use Rattle.tp_lexer.specs.declared.shape.Extent.{Extent}
use Rattle.tp_lexer.proofs.Prefixes.{and_left, prefix_ge, prefix_is, drop_front}

-- a prefix of this shape and length is shorter than what is taken, or has its shape and length
abbrev pub IsBest : Shape → ℕ → Extent → Type 0
IsBest shape n e = (n < e.length) ⊎ ((n ≡ e.length) × (shape ≡ e.shape))

pub best_of : (shape : Shape) (n m : ℕ) → n ≤ m → IsBest shape n (extent shape m)
best_of shape n m within = elim (eq-or-lt_of_le within) as (λ _. IsBest shape n (extent shape m)) [
  | inl same ↦ inr (same, refl)
  | inr less ↦ inl less
]

pub when_true : (P : Extent → Type 0) (b : Bool) (x y : Extent) → b ≡ true → P x → P (cond b x y)
when_true P true x y is h = h
when_true P false x y is h = absurd (let k : false ≡ true = is in cc)

pub when_false : (P : Extent → Type 0) (b : Bool) (x y : Extent) → b ≡ false → P y → P (cond b x y)
when_false P true x y is h = absurd (let k : true ≡ false = is in cc)
when_false P false x y is h = h

letter_no_blank : (c : ℕ) → is_letter c ≡ true → is_blank c ≡ false
letter_no_blank c letter = grind (arith, nat_tests)

digit_no_blank : (c : ℕ) → is_ascii_digit c ≡ true → is_blank c ≡ false
digit_no_blank c digit = grind (arith, nat_tests)

digit_no_letter : (c : ℕ) → is_ascii_digit c ≡ true → is_letter c ≡ false
digit_no_letter c digit = grind (arith, nat_tests)

pub word_at_front : (c : ℕ) (cs : List ℕ) → is_letter c ≡ true → shape_at (c ∷ cs) ≡ extent s.Word (prefix_len is_word_byte (c ∷ cs))
word_at_front c cs letter = simp (letter_no_blank c letter, letter)

pub number_at_front : (c : ℕ) (cs : List ℕ) → is_ascii_digit c ≡ true → shape_at (c ∷ cs) ≡ number_extent (c ∷ cs)
number_at_front c cs digit = simp (digit_no_blank c digit, digit_no_letter c digit, digit)

pub blank_at_front : (c : ℕ) (cs : List ℕ) → is_blank c ≡ true → shape_at (c ∷ cs) ≡ extent s.Blank 1
blank_at_front c cs blank = simp blank

word_at : (c : ℕ) (cs back : List ℕ) → is_letter c ≡ true → list_all is_word_byte cs ≡ true → IsBest s.Word (length (c ∷ cs)) (shape_at (c ∷ (cs ++ back)))
word_at c cs back letter others =
    let each : list_all is_word_byte (c ∷ cs) ≡ true = ap (λ (b : Bool). (b || is_ascii_digit c) && list_all is_word_byte cs) letter ∙ others in
    subst (IsBest s.Word (length (c ∷ cs))) (sym (word_at_front c (cs ++ back) letter))
    (best_of s.Word (length (c ∷ cs)) (prefix_len is_word_byte (c ∷ (cs ++ back))) (prefix_ge is_word_byte (c ∷ cs) back each))

pub word_best : (front back : List ℕ) → IsWord front → IsBest s.Word (length front) (shape_at (front ++ back))
word_best front back w = subst (λ (f : List ℕ). IsBest s.Word (length f) (shape_at (f ++ back))) (sym w.spelled) (word_at w.first w.more back w.begins w.goes_on)

pub blank_best : (front back : List ℕ) → IsBlank front → IsBest s.Blank (length front) (shape_at (front ++ back))
blank_best front back w =
    let one : 1 ≤ 1 = omega arith in
    subst (λ (f : List ℕ). IsBest s.Blank (length f) (shape_at (f ++ back))) (sym w.spelled)
    (subst (IsBest s.Blank 1) (sym (blank_at_front w.byte back w.separates)) (best_of s.Blank 1 1 one))

-- a number by the lengths of its parts
abbrev number_by : ℕ → ℕ → ℕ → Extent
number_by digits fraction exponent = cond (eqb (fraction + exponent) 0) (extent s.Decimal digits) (extent s.Real (digits + fraction + exponent))

decimal_by : (b : Bool) (digits f x n : ℕ) → eqb (f + x) 0 ≡ b → n ≤ digits → IsBest s.Decimal n (cond b (extent s.Decimal digits) (extent s.Real (digits + f + x)))
decimal_by true digits f x n is within = best_of s.Decimal n digits within
decimal_by false digits f x n is within =
    let some : 0 < f + x = grind (arith, nat_tests) in
    let less : n < digits + f + x = omega arith in
    inl less

real_by : (b : Bool) (digits f x n : ℕ) → eqb (f + x) 0 ≡ b → 0 < f + x → n ≤ digits + f + x → IsBest s.Real n (cond b (extent s.Decimal digits) (extent s.Real (digits + f + x)))
real_by true digits f x n is some within = let none : f + x ≡ 0 = grind (arith, nat_tests) in absurd (omega arith)
real_by false digits f x n is some within = best_of s.Real n (digits + f + x) within

pub decimal_best : (front back : List ℕ) → AreDigits front → IsBest s.Decimal (length front) (shape_at (front ++ back))
decimal_best [] back are = let some = are.some in absurd (omega arith)
decimal_best (c ∷ cs) back are =
    let bytes : List ℕ = c ∷ (cs ++ back) in
    let digits = prefix_len is_ascii_digit bytes in
    let f = fraction_len (drop digits bytes) in
    let x = exponent_len (drop f (drop digits bytes)) in
    subst (IsBest s.Decimal (length (c ∷ cs))) (sym (number_at_front c (cs ++ back) (and_left _ _ are.each)))
    (decimal_by (eqb (f + x) 0) digits f x (length (c ∷ cs)) refl (prefix_ge is_ascii_digit (c ∷ cs) back are.each))

abbrev number_rest : ℕ → List ℕ → Extent
number_rest digits rest = number_by digits (fraction_len rest) (exponent_len (drop (fraction_len rest) rest))

number_after : (digits : List ℕ) (y : ℕ) (ys : List ℕ) → list_all is_ascii_digit digits ≡ true → is_ascii_digit y ≡ false → number_extent (digits ++ y ∷ ys) ≡ number_rest (length digits) (y ∷ ys)
number_after digits y ys each stops =
    let bytes = digits ++ y ∷ ys in
    let long : prefix_len is_ascii_digit bytes ≡ length digits = prefix_is is_ascii_digit digits y ys each stops in
    ap (λ (n : ℕ). number_rest n (drop n bytes)) long ∙ ap (number_rest (length digits)) (drop_front digits (y ∷ ys) (length digits) refl)

-- the rest of a real number begins with no digit, and is no longer than the parts that are taken
pub record IsTail (tail back : List ℕ) : Type 0 where
  pub first : ℕ
  pub more : List ℕ
  pub is : tail ++ back ≡ first ∷ more
  pub stops : is_ascii_digit first ≡ false
  pub within : length tail ≤ fraction_len (first ∷ more) + exponent_len (drop (fraction_len (first ∷ more)) (first ∷ more))

at_least : (b : Bool) (n x y : ℕ) → b ≡ true → n ≤ x → n ≤ cond b x y
at_least true n x y is h = h
at_least false n x y is h = absurd (let k : false ≡ true = is in cc)

exponent_from : (letter : ℕ) (rest : List ℕ) (sign n : ℕ) → (eqb letter 69 || eqb letter 101) ≡ true → sign_len rest ≡ sign → 0 < n → n ≤ prefix_len is_ascii_digit (drop (1 + sign) (letter ∷ rest)) → 1 + sign + n ≤ exponent_len (letter ∷ rest)
exponent_from letter rest sign n is_e signed some within =
    let bytes : List ℕ = letter ∷ rest in
    let k = prefix_len is_ascii_digit (drop (1 + sign_len rest) bytes) in
    let same : n ≤ k = subst (λ (m : ℕ). n ≤ prefix_len is_ascii_digit (drop (1 + m) bytes)) (sym signed) within in
    let there : 0 < k = omega arith in
    let both : ((eqb letter 69 || eqb letter 101) && ltb 0 k) ≡ true = grind (arith, nat_tests) in
    let long : 1 + sign + n ≤ 1 + sign_len rest + k = omega arith in
    at_least ((eqb letter 69 || eqb letter 101) && ltb 0 k) (1 + sign + n) (1 + sign_len rest + k) 0 both long

digit_no_sign : (c : ℕ) → is_ascii_digit c ≡ true → (eqb c 43 || eqb c 45) ≡ false
digit_no_sign c digit = grind (arith, nat_tests)

no_sign : (digits back : List ℕ) → AreDigits digits → sign_len (digits ++ back) ≡ 0
no_sign [] back are = let some = are.some in absurd (omega arith)
no_sign (c ∷ cs) back are = ap (λ (b : Bool). cond b 1 0) (digit_no_sign c (and_left _ _ are.each))

exponent_ge : (letter : ℕ) (sign digits back : List ℕ) → (eqb letter 69 || eqb letter 101) ≡ true → is_sign sign ≡ true → AreDigits digits → length (letter ∷ (sign ++ digits)) ≤ exponent_len (letter ∷ ((sign ++ digits) ++ back))
exponent_ge letter [] digits back is_e signed are =
    let some : 0 < length digits = are.some in
    let long : length digits ≤ prefix_len is_ascii_digit (digits ++ back) = prefix_ge is_ascii_digit digits back are.each in
    let h : 1 + 0 + length digits ≤ exponent_len (letter ∷ (digits ++ back)) = exponent_from letter (digits ++ back) 0 (length digits) is_e (no_sign digits back are) some long in
    omega arith
exponent_ge letter (c ∷ []) digits back is_e signed are =
    let some : 0 < length digits = are.some in
    let rest : List ℕ = c ∷ (digits ++ back) in
    let one : sign_len rest ≡ 1 = ap (λ (b : Bool). cond b 1 0) signed in
    let long : length digits ≤ prefix_len is_ascii_digit (digits ++ back) = prefix_ge is_ascii_digit digits back are.each in
    let h : 1 + 1 + length digits ≤ exponent_len (letter ∷ rest) = exponent_from letter rest 1 (length digits) is_e one some long in
    omega arith
exponent_ge letter (c ∷ d ∷ sign) digits back is_e signed are = absurd (let k : false ≡ true = signed in cc)

e_stops : (letter : ℕ) → (eqb letter 69 || eqb letter 101) ≡ true → is_ascii_digit letter ≡ false
e_stops letter is_e = grind (arith, nat_tests)

e_no_dot : (letter : ℕ) → (eqb letter 69 || eqb letter 101) ≡ true → eqb letter 46 ≡ false
e_no_dot letter is_e = grind (arith, nat_tests)

no_fraction : (c : ℕ) (cs : List ℕ) → eqb c 46 ≡ false → fraction_len (c ∷ cs) ≡ 0
no_fraction c cs other = ap (λ (b : Bool). cond (b && is_ascii_digit (get_or (c ∷ cs) 1 0)) (1 + prefix_len is_ascii_digit cs) 0) other

some_fraction : (digits back : List ℕ) → AreDigits digits → fraction_len (46 ∷ (digits ++ back)) ≡ 1 + prefix_len is_ascii_digit (digits ++ back)
some_fraction [] back are = let some = are.some in absurd (omega arith)
some_fraction (c ∷ cs) back are = ap (λ (b : Bool). cond b (1 + prefix_len is_ascii_digit (c ∷ (cs ++ back))) 0) (and_left _ _ are.each)

exponent_tail : (exponent back : List ℕ) → IsExponent exponent → IsTail exponent back
exponent_tail exponent back x =
    let tail : List ℕ = x.letter ∷ (x.sign ++ x.digits) in
    let more = (x.sign ++ x.digits) ++ back in
    let none : fraction_len (x.letter ∷ more) ≡ 0 = no_fraction x.letter more (e_no_dot x.letter x.is_e) in
    let long : length tail ≤ exponent_len (x.letter ∷ more) = exponent_ge x.letter x.sign x.digits back x.is_e x.signed x.are_digits in
    let bound : length tail ≤ fraction_len (x.letter ∷ more) + exponent_len (drop (fraction_len (x.letter ∷ more)) (x.letter ∷ more)) =
    subst (λ (f : ℕ). length tail ≤ f + exponent_len (drop f (x.letter ∷ more))) (sym none) (omega arith) in
    subst (λ (e : List ℕ). IsTail e back) (sym x.spelled) (record { first = x.letter; more = more; is = refl; stops = e_stops x.letter x.is_e; within = bound })

fraction_tail : (fraction back : List ℕ) → IsFraction fraction → IsTail (fraction ++ []) back
fraction_tail fraction back f =
    let tail : List ℕ = 46 ∷ f.digits in
    let more = f.digits ++ back in
    let n = fraction_len (46 ∷ more) in
    let long : length f.digits ≤ prefix_len is_ascii_digit more = prefix_ge is_ascii_digit f.digits back f.are_digits.each in
    let is_long : n ≡ 1 + prefix_len is_ascii_digit more = some_fraction f.digits back f.are_digits in
    let bound : length tail ≤ n + exponent_len (drop n (46 ∷ more)) = omega arith in
    let whole : IsTail tail back = record { first = 46; more = more; is = refl; stops = refl; within = bound } in
    subst (λ (e : List ℕ). IsTail e back) (sym (append-nil fraction ∙ f.spelled)) whole

both_tail : (fraction exponent back : List ℕ) → IsFraction fraction → IsExponent exponent → IsTail (fraction ++ exponent) back
both_tail fraction exponent back f x =
    let rest : List ℕ = x.letter ∷ ((x.sign ++ x.digits) ++ back) in
    let e : List ℕ = x.letter ∷ (x.sign ++ x.digits) in
    let more = f.digits ++ rest in
    let n = fraction_len (46 ∷ more) in
    let is_long : n ≡ 1 + length f.digits = some_fraction f.digits rest f.are_digits ∙ ap (λ (m : ℕ). 1 + m) (prefix_is is_ascii_digit f.digits x.letter ((x.sign ++ x.digits) ++ back) f.are_digits.each (e_stops x.letter x.is_e)) in
    let dropped : drop n (46 ∷ more) ≡ rest = drop_front (46 ∷ f.digits) rest n (omega arith) in
    let long : length e ≤ exponent_len rest = exponent_ge x.letter x.sign x.digits back x.is_e x.signed x.are_digits in
    let same : exponent_len (drop n (46 ∷ more)) ≡ exponent_len rest = ap exponent_len dropped in
    let bound : length ((46 ∷ f.digits) ++ e) ≤ n + exponent_len (drop n (46 ∷ more)) = omega (arith, length-append (46 ∷ f.digits) e) in
    let whole : IsTail ((46 ∷ f.digits) ++ e) back = record { first = 46; more = more; is = append_assoc (46 ∷ f.digits) e back; stops = refl; within = bound } in
    subst (λ (t : List ℕ). IsTail (t ++ exponent) back) (sym f.spelled) (subst (λ (t : List ℕ). IsTail ((46 ∷ f.digits) ++ t) back) (sym x.spelled) whole)

tail_of : (fraction exponent back : List ℕ) → (fraction ≡ []) ⊎ IsFraction fraction → (exponent ≡ []) ⊎ IsExponent exponent → 0 < length (fraction ++ exponent) → IsTail (fraction ++ exponent) back
tail_of fraction exponent back (inl none) (inl nothing) some = absurd (let h = ap (λ (t : List ℕ). length (t ++ exponent)) none in let k = ap length nothing in omega arith)
tail_of fraction exponent back (inl none) (inr x) some = subst (λ (t : List ℕ). IsTail (t ++ exponent) back) (sym none) (exponent_tail exponent back x)
tail_of fraction exponent back (inr f) (inl nothing) some = subst (λ (t : List ℕ). IsTail (fraction ++ t) back) (sym nothing) (fraction_tail fraction back f)
tail_of fraction exponent back (inr f) (inr x) some = both_tail fraction exponent back f x

real_from : (digits tail back : List ℕ) → AreDigits digits → 0 < length tail → IsTail tail back → IsBest s.Real (length (digits ++ tail)) (shape_at ((digits ++ tail) ++ back))
real_from [] tail back are some t = let none = are.some in absurd (omega arith)
real_from (c ∷ cs) tail back are some t =
    let digits : List ℕ = c ∷ cs in
    let rest : List ℕ = t.first ∷ t.more in
    let f = fraction_len rest in
    let x = exponent_len (drop f rest) in
    let within : length tail ≤ f + x = t.within in
    let there : 0 < f + x = omega arith in
    let long : length (digits ++ tail) ≤ length digits + f + x = omega (arith, length-append digits tail) in
    let whole : (digits ++ tail) ++ back ≡ digits ++ rest = append_assoc digits tail back ∙ ap (λ (r : List ℕ). digits ++ r) t.is in
    let is : shape_at (digits ++ rest) ≡ number_rest (length digits) rest = number_at_front c (cs ++ rest) (and_left _ _ are.each) ∙ number_after digits t.first t.more are.each t.stops in
    subst (λ (b : List ℕ). IsBest s.Real (length (digits ++ tail)) (shape_at b)) (sym whole)
    (subst (IsBest s.Real (length (digits ++ tail))) (sym is) (real_by (eqb (f + x) 0) (length digits) f x (length (digits ++ tail)) refl there long))

pub real_best : (front back : List ℕ) → IsReal front → IsBest s.Real (length front) (shape_at (front ++ back))
real_best front back r =
    subst (λ (b : List ℕ). IsBest s.Real (length b) (shape_at (b ++ back))) (sym r.spelled)
    (real_from r.digits (r.fraction ++ r.exponent) back r.are_digits r.some (tail_of r.fraction r.exponent back r.fractional r.scaled r.some))

pub hexadecimal_best : (front back : List ℕ) → IsHexadecimal front → IsBest s.Hexadecimal (length front) (shape_at (front ++ back))
hexadecimal_best front back h =
    let n = prefix_len is_ascii_hexdigit (h.digits ++ back) in
    let long : length h.digits ≤ n = prefix_ge is_ascii_hexdigit h.digits back h.each in
    let within : length (36 ∷ h.digits) ≤ 1 + n = omega arith in
    subst (λ (b : List ℕ). IsBest s.Hexadecimal (length b) (shape_at (b ++ back))) (sym h.spelled) (best_of s.Hexadecimal (length (36 ∷ h.digits)) (1 + n) within)
