-- No longer front of a text is a string constant than the one that is taken.
use Rattle.std.proofs.Common.{◌≡◌, ◌⊎◌, inl, inr, ℕ, ◌+◌, ◌<◌, ◌≤◌, Bool, true, false, cond, not, ◌&&◌, ◌||◌, eqb, List, [], ◌∷◌, ◌++◌, length, Option, Some, None, refl, ap, sym, ◌∙◌, subst, arith, append_assoc}
use Rattle.std.specs.List.{list_all, concat}
use Rattle.std.specs.Option.{option_map_or, option_and_then}
use Rattle.std.specs.Char.{is_ascii_digit, is_ascii_hexdigit}
use Rattle.std.proofs.lemmas.Bool.Decides.{nat_tests}
use Rattle.tp_lexer.specs.Shapes.{extent, constant_of, constant_from, next_part, opens}
use Rattle.tp_lexer.specs.Pieces.{shape_at}
use Rattle.tp_lexer.specs.Grammar.{is_quotable, IsQuoted, IsCode, AreParts, IsConstant, IsOpenConstant}
use Rattle.tp_lexer.specs.declared.shape.Shape.{Shape}
use Rattle.tp_lexer.specs.declared.shape.Shape.TheVariants as s
use Rattle.tp_lexer.specs.declared.shape.Extent.{Extent}
use Rattle.tp_lexer.specs.declared.constant.Part.{Part}
use Rattle.tp_lexer.specs.declared.constant.Part.TheVariants as p
use Rattle.tp_lexer.proofs.Prefixes.{and_left, and_right}
use Rattle.tp_lexer.proofs.Longest.{IsBest}
use Rattle.tp_lexer.proofs.Positive.{constant_from-ge}

-- where these bytes lead, if all belong to one constant
abbrev pub run : Part → List ℕ → Option Part
run part [] = Some part
run part (c ∷ cs) = option_and_then (λ next. run next cs) (next_part part c)

from_step : (f : Part → Option Part) (g : Part → Extent) (o : Option Part) (d z : Extent) (last : Part) → option_and_then f o ≡ Some last → ((next : Part) → f next ≡ Some last → g next ≡ z) → option_map_or g o d ≡ z
from_step f g None d z last e more = absurd (let h : None ≡ Some last = e in cc)
from_step f g (Some next) d z last e more = more next e

pub from_run : (n : ℕ) (part : Part) (front back : List ℕ) (last : Part) → run part front ≡ Some last → constant_from n part (front ++ back) ≡ constant_from (n + length front) last back
from_run n part [] back last e =
    let same : part ≡ last = cc in
    let none : n ≡ n + 0 = omega arith in
    ap (λ (q : Part). constant_from n q back) same ∙ ap (λ (m : ℕ). constant_from m last back) none
from_run n part (c ∷ cs) back last e =
    from_step (λ next. run next cs) (λ next. constant_from (n + 1) next (cs ++ back)) (next_part part c) (constant_of part n) (constant_from (n + length (c ∷ cs)) last back) last e
    (λ next others.
    let longer : n + 1 + length cs ≡ n + length (c ∷ cs) = omega arith in
    from_run (n + 1) next cs back last others ∙ ap (λ (m : ℕ). constant_from m last back) longer)

run_step : (f g : Part → Option Part) (o : Option Part) (middle : Part) (z : Option Part) → option_and_then f o ≡ Some middle → ((next : Part) → f next ≡ Some middle → g next ≡ z) → option_and_then g o ≡ z
run_step f g None middle z e more = absurd (let h : None ≡ Some middle = e in cc)
run_step f g (Some next) middle z e more = more next e

pub run-append : (part : Part) (front back : List ℕ) (middle : Part) → run part front ≡ Some middle → run part (front ++ back) ≡ run middle back
run-append part [] back middle e = let same : part ≡ middle = cc in ap (λ (q : Part). run q back) same
run-append part (c ∷ cs) back middle e =
    run_step (λ next. run next cs) (λ next. run next (cs ++ back)) (next_part part c) middle (run middle back) e (λ next others. run-append next cs back middle others)

-- not between quotes
abbrev pub is_between : Part → Bool
is_between p.Inside = false
is_between part = true

quote_opens : (part : Part) → is_between part ≡ true → next_part part 39 ≡ Some p.Inside
quote_opens p.Start is = refl
quote_opens p.Inside is = absurd (let k : false ≡ true = is in cc)
quote_opens p.Closed is = refl
quote_opens p.Code is = refl
quote_opens p.Decimal is = refl
quote_opens p.Dollar is = refl
quote_opens p.Hexadecimal is = refl

code_opens : (part : Part) → is_between part ≡ true → next_part part 35 ≡ Some p.Code
code_opens p.Start is = refl
code_opens p.Inside is = absurd (let k : false ≡ true = is in cc)
code_opens p.Closed is = refl
code_opens p.Code is = refl
code_opens p.Decimal is = refl
code_opens p.Dollar is = refl
code_opens p.Hexadecimal is = refl

stays : (a b : Bool) (x y z : Option Part) → (not a && not b) ≡ true → cond a x (cond b y z) ≡ z
stays true b x y z is = absurd (let k : false ≡ true = is in cc)
stays false true x y z is = absurd (let k : false ≡ true = is in cc)
stays false false x y z is = refl

inside_run : (text : List ℕ) → list_all is_quotable text ≡ true → run p.Inside text ≡ Some p.Inside
inside_run [] each = refl
inside_run (c ∷ cs) each =
    let next : next_part p.Inside c ≡ Some p.Inside = stays (eqb c 39) (eqb c 10 || eqb c 13) (Some p.Closed) None (Some p.Inside) (and_left _ _ each) in
    ap (option_and_then (λ q. run q cs)) next ∙ inside_run cs (and_right _ _ each)

digits_run : (digits : List ℕ) → list_all is_ascii_digit digits ≡ true → run p.Decimal digits ≡ Some p.Decimal
digits_run [] each = refl
digits_run (c ∷ cs) each =
    ap (λ (b : Bool). option_and_then (λ q. run q cs) (cond b (Some p.Decimal) (opens c))) (and_left _ _ each) ∙ digits_run cs (and_right _ _ each)

hexadecimal_run : (digits : List ℕ) → list_all is_ascii_hexdigit digits ≡ true → run p.Hexadecimal digits ≡ Some p.Hexadecimal
hexadecimal_run [] each = refl
hexadecimal_run (c ∷ cs) each =
    ap (λ (b : Bool). option_and_then (λ q. run q cs) (cond b (Some p.Hexadecimal) (opens c))) (and_left _ _ each) ∙ hexadecimal_run cs (and_right _ _ each)

-- the bytes lead out of quotes
pub record LeadsOut (part : Part) (bytes : List ℕ) : Type 0 where
  pub last : Part
  pub between : is_between last ≡ true
  pub runs : run part bytes ≡ Some last

quoted_run : (part : Part) (bytes : List ℕ) → is_between part ≡ true → IsQuoted bytes → LeadsOut part bytes
quoted_run part bytes is q =
    let rest = q.text ++ 39 ∷ [] in
    let opened : run part (39 ∷ rest) ≡ run p.Inside rest = ap (option_and_then (λ n. run n rest)) (quote_opens part is) in
    let closed : run p.Inside rest ≡ Some p.Closed = run-append p.Inside q.text (39 ∷ []) p.Inside (inside_run q.text q.each) in
    record { last = p.Closed; between = refl; runs = ap (run part) q.spelled ∙ opened ∙ closed }

not_dollar : (c : ℕ) → is_ascii_digit c ≡ true → eqb c 36 ≡ false
not_dollar c digit = grind (arith, nat_tests)

code_digits : (digits : List ℕ) → list_all is_ascii_digit digits ≡ true → LeadsOut p.Code digits
code_digits [] each = record { last = p.Code; between = refl; runs = refl }
code_digits (c ∷ cs) each =
    let digit = and_left (is_ascii_digit c) (list_all is_ascii_digit cs) each in
    let next : next_part p.Code c ≡ Some p.Decimal =
    ap (λ (b : Bool). cond b (Some p.Dollar) (cond (is_ascii_digit c) (Some p.Decimal) (opens c))) (not_dollar c digit)
    ∙ ap (λ (b : Bool). cond b (Some p.Decimal) (opens c)) digit in
    record { last = p.Decimal; between = refl; runs = ap (option_and_then (λ q. run q cs)) next ∙ digits_run cs (and_right _ _ each) }

dollar_digits : (digits : List ℕ) → list_all is_ascii_hexdigit digits ≡ true → LeadsOut p.Dollar digits
dollar_digits [] each = record { last = p.Dollar; between = refl; runs = refl }
dollar_digits (c ∷ cs) each =
    record { last = p.Hexadecimal; between = refl; runs = ap (λ (b : Bool). option_and_then (λ q. run q cs) (cond b (Some p.Hexadecimal) (opens c))) (and_left _ _ each) ∙ hexadecimal_run cs (and_right _ _ each) }

code_run : (part : Part) (bytes : List ℕ) → is_between part ≡ true → IsCode bytes → LeadsOut part bytes
code_run part bytes is (inl code) =
    let out = code_digits code.0 code.2 in
    record { last = out.last; between = out.between; runs = ap (run part) code.1 ∙ ap (option_and_then (λ n. run n code.0)) (code_opens part is) ∙ out.runs }
code_run part bytes is (inr code) =
    let out = dollar_digits code.0 code.2 in
    record { last = out.last; between = out.between; runs = ap (run part) code.1 ∙ ap (option_and_then (λ n. run n (36 ∷ code.0))) (code_opens part is) ∙ out.runs }

part_run : (part : Part) (bytes : List ℕ) → is_between part ≡ true → IsQuoted bytes ⊎ IsCode bytes → LeadsOut part bytes
part_run part bytes is (inl quoted) = quoted_run part bytes is quoted
part_run part bytes is (inr code) = code_run part bytes is code

pub parts_run : (part : Part) (parts : List (List ℕ)) → is_between part ≡ true → AreParts parts → LeadsOut part (concat parts)
parts_run part [] is are = record { last = part; between = is; runs = refl }
parts_run part (x ∷ xs) is are =
    let first = part_run part x is are.0 in
    let others = parts_run first.last xs first.between are.1 in
    record { last = others.last; between = others.between; runs = run-append part x (concat xs) first.last first.runs ∙ others.runs }

part_at_front : (part back : List ℕ) → IsQuoted part ⊎ IsCode part → shape_at (part ++ back) ≡ constant_from 0 p.Start (part ++ back)
part_at_front part back (inl q) = subst (λ (t : List ℕ). shape_at (t ++ back) ≡ constant_from 0 p.Start (t ++ back)) (sym q.spelled) refl
part_at_front part back (inr (inl code)) = subst (λ (t : List ℕ). shape_at (t ++ back) ≡ constant_from 0 p.Start (t ++ back)) (sym code.1) refl
part_at_front part back (inr (inr code)) = subst (λ (t : List ℕ). shape_at (t ++ back) ≡ constant_from 0 p.Start (t ++ back)) (sym code.1) refl

at_last_by : (n : ℕ) (f : Part → Extent) (o : Option Part) (d : Extent) (shape : Shape) → d ≡ extent shape n → ((next : Part) → n + 1 ≤ (f next).length) → IsBest shape n (option_map_or f o d)
at_last_by n f None d shape is more = subst (IsBest shape n) (sym is) (inr (refl, refl))
at_last_by n f (Some next) d shape is more = let h = more next in let less : n < (f next).length = omega arith in inl less

at_last : (n : ℕ) (last : Part) (back : List ℕ) (shape : Shape) → constant_of last n ≡ extent shape n → IsBest shape n (constant_from n last back)
at_last n last [] shape is = subst (IsBest shape n) (sym is) (inr (refl, refl))
at_last n last (c ∷ cs) shape is = at_last_by n (λ next. constant_from (n + 1) next cs) (next_part last c) (constant_of last n) shape is (λ next. constant_from-ge (n + 1) next cs)

between_is : (part : Part) (n : ℕ) → is_between part ≡ true → constant_of part n ≡ extent s.Constant n
between_is p.Start n is = refl
between_is p.Inside n is = absurd (let k : false ≡ true = is in cc)
between_is p.Closed n is = refl
between_is p.Code n is = refl
between_is p.Decimal n is = refl
between_is p.Dollar n is = refl
between_is p.Hexadecimal n is = refl

run_best : (front back : List ℕ) (last : Part) (shape : Shape) → shape_at (front ++ back) ≡ constant_from 0 p.Start (front ++ back) → run p.Start front ≡ Some last → ((n : ℕ) → constant_of last n ≡ extent shape n) → IsBest shape (length front) (shape_at (front ++ back))
run_best front back last shape there runs is =
    let n : 0 + length front ≡ length front = omega arith in
    let whole : shape_at (front ++ back) ≡ constant_from (length front) last back = there ∙ from_run 0 p.Start front back last runs ∙ ap (λ (m : ℕ). constant_from m last back) n in
    subst (IsBest shape (length front)) (sym whole) (at_last (length front) last back shape (is (length front)))

pub constant_best : (front back : List ℕ) → IsConstant front → IsBest s.Constant (length front) (shape_at (front ++ back))
constant_best front back k =
    let whole = k.part ++ concat k.parts in
    let out : LeadsOut p.Start whole = parts_run p.Start (k.part ∷ k.parts) refl (k.is_part, k.are_parts) in
    let assoc : whole ++ back ≡ k.part ++ (concat k.parts ++ back) = append_assoc k.part (concat k.parts) back in
    let there : shape_at (whole ++ back) ≡ constant_from 0 p.Start (whole ++ back) = subst (λ (b : List ℕ). shape_at b ≡ constant_from 0 p.Start b) (sym assoc) (part_at_front k.part (concat k.parts ++ back) k.is_part) in
    subst (λ (f : List ℕ). IsBest s.Constant (length f) (shape_at (f ++ back))) (sym k.spelled) (run_best whole back out.last s.Constant there out.runs (λ n. between_is out.last n out.between))

opener_run : (last : Part) (text : List ℕ) → is_between last ≡ true → list_all is_quotable text ≡ true → run last (39 ∷ text) ≡ Some p.Inside
opener_run last text is each = ap (option_and_then (λ n. run n text)) (quote_opens last is) ∙ inside_run text each

open_at_front : (parts : List (List ℕ)) (text back : List ℕ) → AreParts parts → shape_at ((concat parts ++ 39 ∷ text) ++ back) ≡ constant_from 0 p.Start ((concat parts ++ 39 ∷ text) ++ back)
open_at_front [] text back are = refl
open_at_front (x ∷ xs) text back are =
    let rest = (concat xs ++ 39 ∷ text) ++ back in
    let tail = concat xs ++ 39 ∷ text in
    let assoc : ((x ++ concat xs) ++ 39 ∷ text) ++ back ≡ x ++ rest = ap (λ (t : List ℕ). t ++ back) (append_assoc x (concat xs) (39 ∷ text)) ∙ append_assoc x tail back in
    subst (λ (b : List ℕ). shape_at b ≡ constant_from 0 p.Start b) (sym assoc) (part_at_front x rest are.0)

pub open_constant_best : (front back : List ℕ) → IsOpenConstant front → IsBest s.OpenConstant (length front) (shape_at (front ++ back))
open_constant_best front back k =
    let whole = concat k.parts ++ 39 ∷ k.text in
    let out = parts_run p.Start k.parts refl k.are_parts in
    let runs : run p.Start whole ≡ Some p.Inside = run-append p.Start (concat k.parts) (39 ∷ k.text) out.last out.runs ∙ opener_run out.last k.text out.between k.each in
    subst (λ (f : List ℕ). IsBest s.OpenConstant (length f) (shape_at (f ++ back))) (sym k.spelled)
    (run_best whole back p.Inside s.OpenConstant (open_at_front k.parts k.text back k.are_parts) runs (λ n. refl))
