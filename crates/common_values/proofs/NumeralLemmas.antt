-- Reading byte by byte takes numerals, and nothing else.
use Rattle.std.proofs.Common.{◌≡◌, ℕ, zero, suc, ◌+◌, ◌-◌, ◌*◌, ◌<◌, ◌≤◌, Bool, true, false, cond, ◌&&◌, List, [], ◌∷◌, ◌++◌, length, take, append_assoc, append-nil, Option, Some, None, Result, Ok, Err, refl, sym, ap, ◌∙◌, subst, arith, eqb, ltb, leb, lit<, lit≤}
use Rattle.std.proofs.Math.IntN.{ℤ, pos, negsuc, neg_ℤ}
use Rattle.std.specs.Prelude.{MatchResult}
use Rattle.std.specs.Char.{digit_value}
use Rattle.std.specs.Fmt.{decimal, signed_decimal}
use Rattle.std.specs.Int.{w32}
use Rattle.std.specs.Int.RustNames.{FitsSigned}
use Rattle.std.specs.Option.{ok_or, option_map_or}
use Rattle.std.specs.Str.Parse.{digits_value, digits_value_after, AllDigits}
use Rattle.std.proofs.lemmas.Bool.{eqb-true, ltb-true, leb-true, lt-ltb, le-leb, ne_eqb, and_parts}
use Rattle.std.proofs.lemmas.Nat.{mul-le}
use Rattle.std.proofs.lemmas.Fmt.{decimal_is_IsNumeral}
use Rattle.std.proofs.lemmas.Int.Digits.{digits_value_push, digits_push}
use Rattle.std.proofs.lemmas.List.{length-append}
use Rattle.common_values.specs.declared.numerals.Stage.{Stage}
use Rattle.common_values.specs.declared.numerals.Stage.TheVariants as stages
use Rattle.common_values.specs.Numerals.{Sign, none, plus, minus, sign_bytes, is_minus, dollar_bytes, radix_of, signed, IsNumeral, IsPrefix, greatest_magnitude, with_digit, after_sign, next_stage, value_at, IsBounded, numeral_from, numeral_of}
use Rattle.common_values.specs.NumeralLaws.{IsFault, ReadingLaws}

-- the stage behind a text
abbrev pub stage_after : Stage → List ℕ → Option Stage
stage_after s [] = Some s
stage_after s (b ∷ text) = option_map_or (λ t. stage_after t text) (next_stage s b) None

-- ---- what has been read in a stage

record IsSpelled (negative hex : Bool) (ds text : List ℕ) : Type 0 where
  sign : Sign
  is : is_minus sign ≡ negative
  parts : text ≡ sign_bytes sign ++ (dollar_bytes hex ++ ds)
  digits : AllDigits (radix_of hex) ds

record IsRead (negative hex : Bool) (v : ℕ) (text : List ℕ) : Type 0 where
  ds : List ℕ
  spelled : IsSpelled negative hex ds text
  some : 0 < length ds
  value : digits_value (radix_of hex) ds ≡ v
  bound : v ≤ greatest_magnitude negative

abbrev Reached : Stage → List ℕ → Type 0
Reached stages.Start text = text ≡ []
Reached (stages.Signed negative) text = IsSpelled negative false [] text
Reached (stages.Dollar negative) text = IsSpelled negative true [] text
Reached (stages.Digits negative hex v) text = IsRead negative hex v text

push_parts : (s d ds text : List ℕ) (b : ℕ) → text ≡ s ++ (d ++ ds) → text ++ b ∷ [] ≡ s ++ (d ++ (ds ++ b ∷ []))
push_parts s d ds text b e = ap (λ (l : List ℕ). l ++ b ∷ []) e ∙ append_assoc s (d ++ ds) (b ∷ []) ∙ ap (λ (l : List ℕ). s ++ l) (append_assoc d ds (b ∷ []))

digit_by : (negative hex : Bool) (v b : ℕ) (ds text : List ℕ) (t : Stage) (u : Bool) → (ltb (digit_value b) (radix_of hex) && leb (v * radix_of hex + digit_value b) (greatest_magnitude negative)) ≡ u
    → IsSpelled negative hex ds text → digits_value (radix_of hex) ds ≡ v → cond u (Some (stages.Digits negative hex (v * radix_of hex + digit_value b))) None ≡ Some t → Reached t (text ++ b ∷ [])
digit_by negative hex v b ds text t true q s value e =
    let parts = and_parts (ltb (digit_value b) (radix_of hex)) (leb (v * radix_of hex + digit_value b) (greatest_magnitude negative)) q in
    let is : stages.Digits negative hex (v * radix_of hex + digit_value b) ≡ t = cc in
    let longer = length-append ds (b ∷ []) in
    subst (λ (x : Stage). Reached x (text ++ b ∷ [])) is (record {
      ds = ds ++ b ∷ [];
      spelled = record {
        sign = s.sign;
        is = s.is;
        parts = push_parts (sign_bytes s.sign) (dollar_bytes hex) ds text b s.parts;
        digits = digits_push (radix_of hex) ds b s.digits (ltb-true (digit_value b) (radix_of hex) parts.0);
      };
      some = omega arith;
      value = digits_value_push (radix_of hex) ds b ∙ ap (λ n. n * radix_of hex + digit_value b) value;
      bound = leb-true (v * radix_of hex + digit_value b) (greatest_magnitude negative) parts.1;
    })
digit_by negative hex v b ds text t false q s value e = absurd cc

digit_read : (negative hex : Bool) (v b : ℕ) (ds text : List ℕ) (t : Stage) → IsSpelled negative hex ds text → digits_value (radix_of hex) ds ≡ v → with_digit negative hex v b ≡ Some t → Reached t (text ++ b ∷ [])
digit_read negative hex v b ds text t s value e = digit_by negative hex v b ds text t (ltb (digit_value b) (radix_of hex) && leb (v * radix_of hex + digit_value b) (greatest_magnitude negative)) refl s value e

dollar_by : (negative : Bool) (b : ℕ) (text : List ℕ) (t : Stage) (u : Bool) → eqb b 36 ≡ u → IsSpelled negative false [] text → cond u (Some (stages.Dollar negative)) (with_digit negative false 0 b) ≡ Some t → Reached t (text ++ b ∷ [])
dollar_by negative b text t true q s e =
    let is : stages.Dollar negative ≡ t = cc in
    let byte : b ≡ 36 = eqb-true b 36 q in
    subst (λ (x : Stage). Reached x (text ++ b ∷ [])) is (record {
      sign = s.sign;
      is = s.is;
      parts = push_parts (sign_bytes s.sign) [] [] text b s.parts ∙ ap (λ (n : ℕ). sign_bytes s.sign ++ n ∷ []) byte;
      digits = tt;
    })
dollar_by negative b text t false q s e = digit_read negative false 0 b [] text t s refl e

sign_by : (b : ℕ) (t : Stage) (u w : Bool) → eqb b 43 ≡ u → eqb b 45 ≡ w → cond u (Some (stages.Signed false)) (cond w (Some (stages.Signed true)) (after_sign false b)) ≡ Some t → Reached t (b ∷ [])
sign_by b t true w q r e =
    let is : stages.Signed false ≡ t = cc in
    subst (λ (x : Stage). Reached x (b ∷ [])) is (record { sign = plus; is = refl; parts = ap (λ (n : ℕ). n ∷ []) (eqb-true b 43 q); digits = tt })
sign_by b t false true q r e =
    let is : stages.Signed true ≡ t = cc in
    subst (λ (x : Stage). Reached x (b ∷ [])) is (record { sign = minus; is = refl; parts = ap (λ (n : ℕ). n ∷ []) (eqb-true b 45 r); digits = tt })
sign_by b t false false q r e = dollar_by false b [] t (eqb b 36) refl (record { sign = none; is = refl; parts = refl; digits = tt }) e

step : (s t : Stage) (b : ℕ) (text : List ℕ) → next_stage s b ≡ Some t → Reached s text → Reached t (text ++ b ∷ [])
step stages.Start t b text e h = subst (λ (l : List ℕ). Reached t (l ++ b ∷ [])) (sym h) (sign_by b t (eqb b 43) (eqb b 45) refl refl e)
step (stages.Signed negative) t b text e h = dollar_by negative b text t (eqb b 36) refl h e
step (stages.Dollar negative) t b text e h = digit_read negative true 0 b [] text t h refl e
step (stages.Digits negative hex v) t b text e h = digit_read negative hex v b h.ds text t h.spelled h.value e

reached_by : (s t : Stage) (b : ℕ) (front text : List ℕ) (next : Option Stage) → next_stage s b ≡ next → Reached s front → option_map_or (λ u. stage_after u text) next None ≡ Some t
    → ((u : Stage) → Reached u (front ++ b ∷ []) → stage_after u text ≡ Some t → Reached t ((front ++ b ∷ []) ++ text)) → Reached t (front ++ b ∷ text)
reached_by s t b front text None q h e ih = absurd cc
reached_by s t b front text (Some u) q h e ih = subst (λ (l : List ℕ). Reached t l) (append_assoc front (b ∷ []) text) (ih u (step s u b front q h) e)

reached : (s t : Stage) (front text : List ℕ) → Reached s front → stage_after s text ≡ Some t → Reached t (front ++ text)
reached s t front [] h e =
    let is : s ≡ t = cc in
    subst (λ (l : List ℕ). Reached t l) (sym (append-nil front)) (subst (λ (x : Stage). Reached x front) is h)
reached s t front (b ∷ text) h e = reached_by s t b front text (next_stage s b) refl h e (λ u k f. reached u t (front ++ b ∷ []) text k f)

-- ---- what is read in such stages is a numeral, or the front of one

negative-fits : (v : ℕ) → v ≤ 2147483648 → FitsSigned w32 (neg_ℤ (pos v))
negative-fits zero h = record { sfits = omega arith }
negative-fits (suc n) h = record { sfits = omega arith }

signed-fits : (negative : Bool) (v : ℕ) → v ≤ greatest_magnitude negative → FitsSigned w32 (signed negative v)
signed-fits true v h = negative-fits v h
signed-fits false v h = record { sfits = omega arith }

read_numeral : (negative hex : Bool) (v : ℕ) (text : List ℕ) → IsRead negative hex v text → IsNumeral text (signed negative v)
read_numeral negative hex v text r =
    let e : signed (is_minus r.spelled.sign) (digits_value (radix_of hex) r.ds) ≡ signed negative v = rw (r.spelled.is, r.value) refl in
    record {
      numeral = record { sign = r.spelled.sign; is_hexadecimal = hex; digits = r.ds };
      digits = r.spelled.digits;
      some = r.some;
      spelled = r.spelled.parts;
      is = e;
      fits = signed-fits negative v r.bound;
    }

value_reached : (t : Stage) (text : List ℕ) (z : ℤ) → Reached t text → value_at t ≡ Some z → IsNumeral text z
value_reached stages.Start text z h e = absurd cc
value_reached (stages.Signed negative) text z h e = absurd cc
value_reached (stages.Dollar negative) text z h e = absurd cc
value_reached (stages.Digits negative hex v) text z h e =
    let is : signed negative v ≡ z = cc in
    subst (IsNumeral text) is (read_numeral negative hex v text h)

zero-digit : (hex : Bool) → AllDigits (radix_of hex) (48 ∷ [])
zero-digit true = (lit< tt, tt)
zero-digit false = (lit< tt, tt)

zero-value : (hex : Bool) → digits_value (radix_of hex) (48 ∷ []) ≡ 0
zero-value true = refl
zero-value false = refl

zero-bound : (negative : Bool) → 0 ≤ greatest_magnitude negative
zero-bound true = omega arith
zero-bound false = omega arith

with_zero : (negative hex : Bool) (text : List ℕ) → IsSpelled negative hex [] text → IsPrefix text
with_zero negative hex text s = record {
  rest = 48 ∷ [];
  value = signed negative 0;
  whole = read_numeral negative hex 0 (text ++ 48 ∷ []) (record {
    ds = 48 ∷ [];
    spelled = record { sign = s.sign; is = s.is; parts = push_parts (sign_bytes s.sign) (dollar_bytes hex) [] text 48 s.parts; digits = zero-digit hex };
    some = omega arith;
    value = zero-value hex;
    bound = zero-bound negative;
  });
}

prefix_reached : (t : Stage) (text : List ℕ) → Reached t text → IsPrefix text
prefix_reached stages.Start text h = with_zero false false text (record { sign = none; is = refl; parts = h; digits = tt })
prefix_reached (stages.Signed negative) text h = with_zero negative false text h
prefix_reached (stages.Dollar negative) text h = with_zero negative true text h
prefix_reached (stages.Digits negative hex v) text h = record {
  rest = [];
  value = signed negative v;
  whole = subst (λ (l : List ℕ). IsNumeral l (signed negative v)) (sym (append-nil text)) (read_numeral negative hex v text h);
}

pub prefix_from : (t : Stage) (text : List ℕ) → stage_after stages.Start text ≡ Some t → IsPrefix text
prefix_from t text e = prefix_reached t text (reached stages.Start t [] text refl e)

-- ---- a numeral is read

after-ge : (radix v : ℕ) (ds : List ℕ) → 0 < radix → v ≤ digits_value_after radix v ds
after-ge radix v [] h = omega arith
after-ge radix v (d ∷ ds) h =
    let more = after-ge radix (v * radix + digit_value d) ds h in
    let grown = mul-le v 1 v radix (omega arith) (omega arith) in
    omega arith

radix-positive : (hex : Bool) → 0 < radix_of hex
radix-positive true = omega arith
radix-positive false = omega arith

-- digits that are within the bound go on
goes_on : (negative hex : Bool) (v d : ℕ) → digit_value d < radix_of hex → v * radix_of hex + digit_value d ≤ greatest_magnitude negative → with_digit negative hex v d ≡ Some (stages.Digits negative hex (v * radix_of hex + digit_value d))
goes_on negative hex v d h k = rw (lt-ltb (digit_value d) (radix_of hex) h, le-leb (v * radix_of hex + digit_value d) (greatest_magnitude negative) k) refl

digits_after : (negative hex : Bool) (v : ℕ) (ds : List ℕ) → AllDigits (radix_of hex) ds → digits_value_after (radix_of hex) v ds ≤ greatest_magnitude negative → stage_after (stages.Digits negative hex v) ds ≡ Some (stages.Digits negative hex (digits_value_after (radix_of hex) v ds))
digits_after negative hex v [] all h = refl
digits_after negative hex v (d ∷ ds) all h =
    let more = after-ge (radix_of hex) (v * radix_of hex + digit_value d) ds (radix-positive hex) in
    rw (goes_on negative hex v d all.0 (omega arith)) (digits_after negative hex (v * radix_of hex + digit_value d) ds all.1 h)

-- a stage takes its first digit
abbrev Enters : Stage → Bool → Bool → Type 0
Enters s negative hex = (d : ℕ) → digit_value d < radix_of hex → next_stage s d ≡ with_digit negative hex 0 d

first_after : (s : Stage) (negative hex : Bool) (ds : List ℕ) → Enters s negative hex → 0 < length ds → AllDigits (radix_of hex) ds → digits_value (radix_of hex) ds ≤ greatest_magnitude negative → stage_after s ds ≡ Some (stages.Digits negative hex (digits_value (radix_of hex) ds))
first_after s negative hex [] enters some all h = absurd (omega arith)
first_after s negative hex (d ∷ ds) enters some all h =
    let more = after-ge (radix_of hex) (0 * radix_of hex + digit_value d) ds (radix-positive hex) in
    rw (enters d all.0, goes_on negative hex 0 d all.0 (omega arith)) (digits_after negative hex (0 * radix_of hex + digit_value d) ds all.1 h)

-- a byte that is no digit is none of the digits
no_digit : (b d : ℕ) → 10 ≤ digit_value b → digit_value d < 10 → eqb d b ≡ false
no_digit b d h k = ne_eqb d b (λ e. let same = ap digit_value e in absurd (omega arith))

enters_start : Enters stages.Start false false
enters_start d h = rw (no_digit 43 d (lit≤ tt) h, no_digit 45 d (lit≤ tt) h, no_digit 36 d (lit≤ tt) h) refl

enters_signed : (negative : Bool) → Enters (stages.Signed negative) negative false
enters_signed negative d h = rw (no_digit 36 d (lit≤ tt) h) refl

spelling_after : (sign : Sign) (hex : Bool) (ds : List ℕ) → 0 < length ds → AllDigits (radix_of hex) ds → digits_value (radix_of hex) ds ≤ greatest_magnitude (is_minus sign)
    → stage_after stages.Start (sign_bytes sign ++ (dollar_bytes hex ++ ds)) ≡ Some (stages.Digits (is_minus sign) hex (digits_value (radix_of hex) ds))
spelling_after none true ds some all h = first_after (stages.Dollar false) false true ds (λ d k. refl) some all h
spelling_after none false ds some all h = first_after stages.Start false false ds enters_start some all h
spelling_after plus true ds some all h = first_after (stages.Dollar false) false true ds (λ d k. refl) some all h
spelling_after plus false ds some all h = first_after (stages.Signed false) false false ds (enters_signed false) some all h
spelling_after minus true ds some all h = first_after (stages.Dollar true) true true ds (λ d k. refl) some all h
spelling_after minus false ds some all h = first_after (stages.Signed true) true false ds (enters_signed true) some all h

negative-bound : (v : ℕ) → FitsSigned w32 (neg_ℤ (pos v)) → v ≤ 2147483648
negative-bound zero h = omega arith
negative-bound (suc n) h = let f = h.sfits in omega arith

signed-bound : (negative : Bool) (v : ℕ) → FitsSigned w32 (signed negative v) → v ≤ greatest_magnitude negative
signed-bound true v h = negative-bound v h
signed-bound false v h = let f = h.sfits in omega arith

-- the stage behind a numeral, and its value
record EndsIn (text : List ℕ) (z : ℤ) : Type 0 where
  stage : Stage
  after : stage_after stages.Start text ≡ Some stage
  value : value_at stage ≡ Some z

numeral_after : (text : List ℕ) (z : ℤ) → IsNumeral text z → EndsIn text z
numeral_after text z n =
    let m = n.numeral in
    let fits = subst (FitsSigned w32) (sym n.is) n.fits in
    record {
      stage = stages.Digits (is_minus m.sign) m.is_hexadecimal (digits_value (radix_of m.is_hexadecimal) m.digits);
      after = ap (stage_after stages.Start) n.spelled ∙ spelling_after m.sign m.is_hexadecimal m.digits n.some n.digits (signed-bound (is_minus m.sign) (digits_value (radix_of m.is_hexadecimal) m.digits) fits);
      value = ap (λ (y : ℤ). Some y) n.is;
    }

none_after_by : (s : Stage) (text more : List ℕ) (next : Option Stage) → option_map_or (λ t. stage_after t text) next None ≡ None → ((t : Stage) → stage_after t text ≡ None → stage_after t (text ++ more) ≡ None) → option_map_or (λ t. stage_after t (text ++ more)) next None ≡ None
none_after_by s text more None e ih = refl
none_after_by s text more (Some t) e ih = ih t e

none_after : (s : Stage) (text more : List ℕ) → stage_after s text ≡ None → stage_after s (text ++ more) ≡ None
none_after s [] more e = absurd cc
none_after s (b ∷ text) more e = none_after_by s text more (next_stage s b) e (λ t f. none_after t text more f)

pub no_prefix : (text : List ℕ) → stage_after stages.Start text ≡ None → ¬ IsPrefix text
no_prefix text e f =
    let ends = numeral_after (text ++ f.rest) f.value f.whole in
    let a = ends.after in
    let n = none_after stages.Start text f.rest e in
    cc

-- ---- the answer

ends_ok_by : (place : ℕ) (text : List ℕ) (t : Stage) (z : ℤ) (next : Option Stage) → option_map_or (λ u. stage_after u text) next None ≡ Some t
    → ((u : Stage) → stage_after u text ≡ Some t → numeral_from u (place + 1) text ≡ Ok z) → option_map_or (λ u. numeral_from u (place + 1) text) next (Err place) ≡ Ok z
ends_ok_by place text t z None e ih = absurd cc
ends_ok_by place text t z (Some u) e ih = ih u e

ends_ok : (s t : Stage) (place : ℕ) (text : List ℕ) (z : ℤ) → stage_after s text ≡ Some t → value_at t ≡ Some z → numeral_from s place text ≡ Ok z
ends_ok s t place [] z e v = let is : s ≡ t = cc in rw (is, v) refl
ends_ok s t place (b ∷ text) z e v = ends_ok_by place text t z (next_stage s b) e (λ u f. ends_ok u t (place + 1) text z f v)

read : (text : List ℕ) (z : ℤ) → IsNumeral text z → numeral_of text ≡ Ok z
unfolding numeral_of
read text z n = let ends = numeral_after text z n in ends_ok stages.Start ends.stage 1 text z ends.after ends.value

record IsOkFrom (s : Stage) (text : List ℕ) (z : ℤ) : Type 0 where
  stage : Stage
  after : stage_after s text ≡ Some stage
  value : value_at stage ≡ Some z

-- so many bytes go on, and no more
record FailsFrom (s : Stage) (place : ℕ) (text : List ℕ) (p : ℕ) : Type 0 where
  count : ℕ
  stage : Stage
  is : p ≡ place + count
  within : count ≤ length text
  after : stage_after s (take count text) ≡ Some stage
  stops : count < length text → stage_after s (take (suc count) text) ≡ None

abbrev Answers : Stage → ℕ → List ℕ → Result ℤ ℕ → Type 0
Answers s place text answer = MatchResult answer (IsOkFrom s text) (FailsFrom s place text)

at_end : (s : Stage) (place : ℕ) (o : Option ℤ) → value_at s ≡ o → Answers s place [] (ok_or o place)
at_end s place None e = record { count = 0; stage = s; is = omega arith; within = omega arith; after = refl; stops = λ h. absurd (omega arith) }
at_end s place (Some z) e = record { stage = s; after = refl; value = e }

one_more : (s t : Stage) (place b : ℕ) (text : List ℕ) (answer : Result ℤ ℕ) → next_stage s b ≡ Some t → Answers t (place + 1) text answer → Answers s place (b ∷ text) answer
one_more s t place b text (Ok z) e a = record { stage = a.stage; after = rw e a.after; value = a.value }
one_more s t place b text (Err p) e a =
    let is = a.is in
    let within = a.within in
    record {
      count = suc a.count;
      stage = a.stage;
      is = omega arith;
      within = omega arith;
      after = rw e a.after;
      stops = λ h. rw e (a.stops (omega arith));
    }

answers_by : (s : Stage) (place b : ℕ) (text : List ℕ) (next : Option Stage) → next_stage s b ≡ next → ((t : Stage) → Answers t (place + 1) text (numeral_from t (place + 1) text)) → Answers s place (b ∷ text) (option_map_or (λ t. numeral_from t (place + 1) text) next (Err place))
answers_by s place b text None e ih = record { count = 0; stage = s; is = omega arith; within = omega arith; after = refl; stops = λ h. rw e refl }
answers_by s place b text (Some t) e ih = one_more s t place b text (numeral_from t (place + 1) text) e (ih t)

answers : (s : Stage) (place : ℕ) (text : List ℕ) → Answers s place text (numeral_from s place text)
answers s place [] = at_end s place (value_at s) refl
answers s place (b ∷ text) = answers_by s place b text (next_stage s b) refl (λ t. answers t (place + 1) text)

value_from : (text : List ℕ) (z : ℤ) (answer : Result ℤ ℕ) → answer ≡ Ok z → Answers stages.Start 1 text answer → IsNumeral text z
value_from text z (Ok y) e a =
    let is : y ≡ z = cc in
    subst (IsNumeral text) is (value_reached a.stage text y (reached stages.Start a.stage [] text refl a.after) a.value)
value_from text z (Err p) e a = absurd cc

value : (text : List ℕ) (z : ℤ) → numeral_of text ≡ Ok z → IsNumeral text z
unfolding numeral_of
value text z e = value_from text z (numeral_from stages.Start 1 text) e (answers stages.Start 1 text)

fault_from : (text : List ℕ) (p : ℕ) (answer : Result ℤ ℕ) → answer ≡ Err p → Answers stages.Start 1 text answer → IsFault IsPrefix text p
fault_from text p (Ok y) e a = absurd cc
fault_from text p (Err q) e a =
    let same : q ≡ p = cc in
    let is = a.is in
    let within = a.within in
    let before : p - 1 ≡ a.count = omega arith in
    let behind : p ≡ suc a.count = omega arith in
    record {
      positive = omega arith;
      within = omega arith;
      front = subst (λ (n : ℕ). IsPrefix (take n text)) (sym before) (prefix_from a.stage (take a.count text) a.after);
      stops = λ h. subst (λ (n : ℕ). ¬ IsPrefix (take n text)) (sym behind) (no_prefix (take (suc a.count) text) (a.stops (omega arith)));
    }

fault : (text : List ℕ) (p : ℕ) → numeral_of text ≡ Err p → IsFault IsPrefix text p
unfolding numeral_of
fault text p e = fault_from text p (numeral_from stages.Start 1 text) e (answers stages.Start 1 text)

-- ---- one byte on

pub numeral_more : (s t : Stage) (place b : ℕ) (text rest : List ℕ) (whole : Result ℤ ℕ) → text ≡ b ∷ rest → next_stage s b ≡ Some t → numeral_from s place text ≡ whole → numeral_from t (place + 1) rest ≡ whole
numeral_more s t place b text rest whole e n h =
    let on : numeral_from s place (b ∷ rest) ≡ numeral_from t (place + 1) rest = rw n refl in
    sym on ∙ ap (numeral_from s place) (sym e) ∙ h

pub numeral_stops : (s : Stage) (place b : ℕ) (text rest : List ℕ) (whole : Result ℤ ℕ) → text ≡ b ∷ rest → next_stage s b ≡ None → numeral_from s place text ≡ whole → Err place ≡ whole
numeral_stops s place b text rest whole e n h =
    let here : numeral_from s place (b ∷ rest) ≡ Err place = rw n refl in
    sym here ∙ ap (numeral_from s place) (sym e) ∙ h

bounded_digit : (negative hex : Bool) (v b : ℕ) (t : Stage) (u : Bool) → (ltb (digit_value b) (radix_of hex) && leb (v * radix_of hex + digit_value b) (greatest_magnitude negative)) ≡ u → cond u (Some (stages.Digits negative hex (v * radix_of hex + digit_value b))) None ≡ Some t → IsBounded t
bounded_digit negative hex v b t true q e =
    let parts = and_parts (ltb (digit_value b) (radix_of hex)) (leb (v * radix_of hex + digit_value b) (greatest_magnitude negative)) q in
    let is : stages.Digits negative hex (v * radix_of hex + digit_value b) ≡ t = cc in
    subst IsBounded is (leb-true (v * radix_of hex + digit_value b) (greatest_magnitude negative) parts.1)
bounded_digit negative hex v b t false q e = absurd cc

bounded_dollar : (negative : Bool) (b : ℕ) (t : Stage) (u : Bool) → cond u (Some (stages.Dollar negative)) (with_digit negative false 0 b) ≡ Some t → IsBounded t
bounded_dollar negative b t true e = let is : stages.Dollar negative ≡ t = cc in subst IsBounded is tt
bounded_dollar negative b t false e = bounded_digit negative false 0 b t _ refl e

bounded_sign : (b : ℕ) (t : Stage) (u w : Bool) → cond u (Some (stages.Signed false)) (cond w (Some (stages.Signed true)) (after_sign false b)) ≡ Some t → IsBounded t
bounded_sign b t true w e = let is : stages.Signed false ≡ t = cc in subst IsBounded is tt
bounded_sign b t false true e = let is : stages.Signed true ≡ t = cc in subst IsBounded is tt
bounded_sign b t false false e = bounded_dollar false b t (eqb b 36) e

pub next_bounded : (s t : Stage) (b : ℕ) → next_stage s b ≡ Some t → IsBounded t
next_bounded stages.Start t b e = bounded_sign b t (eqb b 43) (eqb b 45) e
next_bounded (stages.Signed negative) t b e = bounded_dollar negative b t (eqb b 36) e
next_bounded (stages.Dollar negative) t b e = bounded_digit negative true 0 b t _ refl e
next_bounded (stages.Digits negative hex v) t b e = bounded_digit negative hex v b t _ refl e

-- ---- what is written is read

written : (z : ℤ) → FitsSigned w32 z → IsNumeral (signed_decimal z) z
written (pos n) h =
    let f = h.sfits in
    let d = decimal_is_IsNumeral n (omega arith) in
    record {
      numeral = record { sign = none; is_hexadecimal = false; digits = decimal n };
      digits = d.0.1;
      some = d.0.0;
      spelled = refl;
      is = ap pos d.1;
      fits = h;
    }
written (negsuc n) h =
    let f = h.sfits in
    let d = decimal_is_IsNumeral (suc n) (omega arith) in
    record {
      numeral = record { sign = minus; is_hexadecimal = false; digits = decimal (suc n) };
      digits = d.0.1;
      some = d.0.0;
      spelled = refl;
      is = ap (λ (m : ℕ). neg_ℤ (pos m)) d.1;
      fits = h;
    }

same_value : (r : Result ℤ ℕ) (y z : ℤ) → r ≡ Ok y → r ≡ Ok z → y ≡ z
same_value r y z e f = cc

pub reading_laws : ReadingLaws
reading_laws = record {
  value = value;
  read = read;
  fault = fault;
  one = λ text y z m n. same_value (numeral_of text) y z (read text y m) (read text z n);
  written = written;
}
