-- A string constant that is taken at the front of a text stands in the grammar.
use Rattle.std.proofs.Common.{◌≡◌, ◌⊎◌, inl, inr, ℕ, ◌+◌, ◌<◌, ◌≤◌, Bool, true, false, cond, not, ◌&&◌, ◌||◌, eqb, List, [], ◌∷◌, ◌++◌, length, take, Option, Some, None, refl, ap, sym, ◌∙◌, subst, arith, append_assoc, length-take-le}
use Rattle.std.specs.List.{list_all, concat}
use Rattle.std.specs.Option.{option_map_or, option_and_then}
use Rattle.std.specs.Char.{is_ascii_digit, is_ascii_hexdigit}
use Rattle.std.proofs.lemmas.Bool.Decides.{nat_tests}
use Rattle.tp_lexer.specs.Shapes.{constant_of, constant_from, next_part, opens}
use Rattle.tp_lexer.specs.Grammar.{is_quotable, IsQuoted, IsCode, AreParts, IsConstant}
use Rattle.tp_lexer.specs.declared.shape.Extent.{Extent}
use Rattle.tp_lexer.specs.declared.constant.Part.{Part}
use Rattle.tp_lexer.specs.declared.constant.Part.TheVariants as p
use Rattle.tp_lexer.proofs.Positive.{constant_of-length}
use Rattle.tp_lexer.proofs.Prefixes.{take_more}
use Rattle.tp_lexer.proofs.LongestConstants.{run}
use Rattle.tp_lexer.proofs.Taken.{IsPrefix, IsSound}

-- what is left of a constant, between its parts: parts, and at last maybe an opening quote and text
abbrev Tail : Part → List (List ℕ) → List ℕ → Type 0
Tail p.Inside parts bytes = (text : List ℕ) × (bytes ≡ concat parts ++ 39 ∷ text) × (list_all is_quotable text ≡ true)
Tail last parts bytes = bytes ≡ concat parts

abbrev Between : Part → List ℕ → Type 0
Between last bytes = (parts : List (List ℕ)) × AreParts parts × Tail last parts bytes

-- what is left between quotes: text, and then its closer or the end
abbrev Within : Part → List ℕ → Type 0
Within last bytes = (text : List ℕ) × (list_all is_quotable text ≡ true)
    × (((rest : List ℕ) × (bytes ≡ text ++ 39 ∷ rest) × Between last rest) ⊎ ((last ≡ p.Inside) × (bytes ≡ text)))

-- what is left in the digits of a code
abbrev Digits : (ℕ → Bool) → Part → List ℕ → Type 0
Digits test last bytes = (digits : List ℕ) × (rest : List ℕ) × (bytes ≡ digits ++ rest) × (list_all test digits ≡ true) × Between last rest

abbrev Left : Part → Part → List ℕ → Type 0
Left p.Start last bytes = Between last bytes
Left p.Inside last bytes = Within last bytes
Left p.Closed last bytes = Between last bytes
Left p.Code last bytes = Between last (35 ∷ bytes)
Left p.Decimal last bytes = Digits is_ascii_digit last bytes
Left p.Dollar last bytes = Digits is_ascii_hexdigit last bytes
Left p.Hexadecimal last bytes = Digits is_ascii_hexdigit last bytes

-- one more part in front
before : (last : Part) (part rest : List ℕ) → IsQuoted part ⊎ IsCode part → Between last rest → Between last (part ++ rest)
before p.Inside part rest is b =
    (part ∷ b.0, (is, b.1), (b.2.0, ap (λ (t : List ℕ). part ++ t) b.2.1 ∙ sym (append_assoc part (concat b.0) (39 ∷ b.2.0)), b.2.2))
before p.Start part rest is b = (part ∷ b.0, (is, b.1), ap (λ (t : List ℕ). part ++ t) b.2)
before p.Closed part rest is b = (part ∷ b.0, (is, b.1), ap (λ (t : List ℕ). part ++ t) b.2)
before p.Code part rest is b = (part ∷ b.0, (is, b.1), ap (λ (t : List ℕ). part ++ t) b.2)
before p.Decimal part rest is b = (part ∷ b.0, (is, b.1), ap (λ (t : List ℕ). part ++ t) b.2)
before p.Dollar part rest is b = (part ∷ b.0, (is, b.1), ap (λ (t : List ℕ). part ++ t) b.2)
before p.Hexadecimal part rest is b = (part ∷ b.0, (is, b.1), ap (λ (t : List ℕ). part ++ t) b.2)

-- an opening quote in front of what is left between quotes
quoted_before : (last : Part) (bytes : List ℕ) → Within last bytes → Between last (39 ∷ bytes)
quoted_before last bytes (text, each, inl closed) =
    let part : List ℕ = 39 ∷ (text ++ 39 ∷ []) in
    let rest = closed.0 in
    let quoted : IsQuoted part = record { text = text; spelled = refl; each = each } in
    let whole : part ++ rest ≡ 39 ∷ bytes = ap (λ (t : List ℕ). 39 ∷ t) (append_assoc text (39 ∷ []) rest ∙ sym closed.1) in
    subst (Between last) whole (before last part rest (inl quoted) closed.2)
quoted_before last bytes (text, each, inr left) =
    let there : Between p.Inside (39 ∷ text) = ([], tt, (text, refl, each)) in
    subst (λ (b : List ℕ). Between last (39 ∷ b)) (sym left.1) (subst (λ (q : Part). Between q (39 ∷ text)) (sym left.0) there)

code_before : (last : Part) (bytes : List ℕ) → Digits is_ascii_digit last bytes → Between last (35 ∷ bytes)
code_before last bytes d =
    let part : List ℕ = 35 ∷ d.0 in
    subst (λ (b : List ℕ). Between last (35 ∷ b)) (sym d.2) (before last part d.1 (inr (inl (d.0, refl, d.3))) d.4)

dollar_before : (last : Part) (bytes : List ℕ) → Digits is_ascii_hexdigit last bytes → Between last (35 ∷ 36 ∷ bytes)
dollar_before last bytes d =
    let part : List ℕ = 35 ∷ 36 ∷ d.0 in
    subst (λ (b : List ℕ). Between last (35 ∷ 36 ∷ b)) (sym d.2) (before last part d.1 (inr (inr (d.0, refl, d.3))) d.4)

digit_before : (test : ℕ → Bool) (last : Part) (c : ℕ) (bytes : List ℕ) → test c ≡ true → Digits test last bytes → Digits test last (c ∷ bytes)
digit_before test last c bytes passes d =
    (c ∷ d.0, d.1, ap (λ (t : List ℕ). c ∷ t) d.2, ap (λ (b : Bool). b && list_all test d.0) passes ∙ d.3, d.4)

none_before : (test : ℕ → Bool) (last : Part) (bytes : List ℕ) → Between last bytes → Digits test last bytes
none_before test last bytes b = ([], bytes, refl, refl, b)

text_before : (last : Part) (c : ℕ) (bytes : List ℕ) → is_quotable c ≡ true → Within last bytes → Within last (c ∷ bytes)
text_before last c bytes passes (text, each, inl closed) =
    (c ∷ text, ap (λ (b : Bool). b && list_all is_quotable text) passes ∙ each, inl (closed.0, ap (λ (t : List ℕ). c ∷ t) closed.1, closed.2))
text_before last c bytes passes (text, each, inr left) =
    (c ∷ text, ap (λ (b : Bool). b && list_all is_quotable text) passes ∙ each, inr (left.0, ap (λ (t : List ℕ). c ∷ t) left.1))

-- the part behind a byte that opens one
opened : (last : Part) (c : ℕ) (cs : List ℕ) (a b : Bool) → eqb c 39 ≡ a → eqb c 35 ≡ b → option_and_then (λ next. run next cs) (cond a (Some p.Inside) (cond b (Some p.Code) None)) ≡ Some last →
    ((next : Part) → run next cs ≡ Some last → Left next last cs) → Between last (c ∷ cs)
opened last c cs true b is_quote is_code runs more =
    let quote : 39 ≡ c = grind (arith, nat_tests) in
    subst (λ (x : ℕ). Between last (x ∷ cs)) quote (quoted_before last cs (more p.Inside runs))
opened last c cs false true is_quote is_code runs more =
    let code : 35 ≡ c = grind (arith, nat_tests) in
    subst (λ (x : ℕ). Between last (x ∷ cs)) code (more p.Code runs)
opened last c cs false false is_quote is_code runs more = absurd (let k : None ≡ Some last = runs in cc)

within_by : (last : Part) (c : ℕ) (cs : List ℕ) (a b : Bool) → eqb c 39 ≡ a → (eqb c 10 || eqb c 13) ≡ b → option_and_then (λ next. run next cs) (cond a (Some p.Closed) (cond b None (Some p.Inside))) ≡ Some last →
    ((next : Part) → run next cs ≡ Some last → Left next last cs) → Within last (c ∷ cs)
within_by last c cs true b is_quote is_end runs more =
    let quote : c ≡ 39 = grind (arith, nat_tests) in
    ([], refl, inl (cs, ap (λ (x : ℕ). x ∷ cs) quote, more p.Closed runs))
within_by last c cs false true is_quote is_end runs more = absurd (let k : None ≡ Some last = runs in cc)
within_by last c cs false false is_quote is_end runs more =
    let passes : is_quotable c ≡ true = ap (λ (x : Bool). not x && not (eqb c 10 || eqb c 13)) is_quote ∙ ap not is_end in
    text_before last c cs passes (more p.Inside runs)

digits_by : (test : ℕ → Bool) (there last : Part) (c : ℕ) (cs : List ℕ) (b : Bool) → test c ≡ b → option_and_then (λ next. run next cs) (cond b (Some there) (opens c)) ≡ Some last →
    (run there cs ≡ Some last → Digits test last cs) → ((next : Part) → run next cs ≡ Some last → Left next last cs) → Digits test last (c ∷ cs)
digits_by test there last c cs true passes runs again more = digit_before test last c cs passes (again runs)
digits_by test there last c cs false passes runs again more = none_before test last (c ∷ cs) (opened last c cs (eqb c 39) (eqb c 35) refl refl runs more)

code_by : (last : Part) (c : ℕ) (cs : List ℕ) (b : Bool) → eqb c 36 ≡ b → option_and_then (λ next. run next cs) (cond b (Some p.Dollar) (cond (is_ascii_digit c) (Some p.Decimal) (opens c))) ≡ Some last →
    ((next : Part) → run next cs ≡ Some last → Left next last cs) → Between last (35 ∷ c ∷ cs)
code_by last c cs true dollar runs more =
    let is : 36 ≡ c = grind (arith, nat_tests) in
    subst (λ (x : ℕ). Between last (35 ∷ x ∷ cs)) is (dollar_before last cs (more p.Dollar runs))
code_by last c cs false dollar runs more =
    code_before last (c ∷ cs) (digits_by is_ascii_digit p.Decimal last c cs (is_ascii_digit c) refl runs (more p.Decimal) more)

code_end : Between p.Code (35 ∷ [])
code_end = ((35 ∷ []) ∷ [], (inr (inl ([], refl, refl)), tt), refl)

at_end : (part : Part) → Left part part []
at_end p.Start = ([], tt, refl)
at_end p.Inside = ([], refl, inr (refl, refl))
at_end p.Closed = ([], tt, refl)
at_end p.Code = code_end
at_end p.Decimal = ([], [], refl, refl, ([], tt, refl))
at_end p.Dollar = ([], [], refl, refl, ([], tt, refl))
at_end p.Hexadecimal = ([], [], refl, refl, ([], tt, refl))

-- the bytes that lead from one part to another are what is left of a constant there
pub left_of : (part : Part) (bytes : List ℕ) (last : Part) → run part bytes ≡ Some last → Left part last bytes
left_of part [] last runs = let same : part ≡ last = cc in subst (λ (q : Part). Left part q []) same (at_end part)
left_of p.Start (c ∷ cs) last runs = opened last c cs (eqb c 39) (eqb c 35) refl refl runs (λ next r. left_of next cs last r)
left_of p.Inside (c ∷ cs) last runs = within_by last c cs (eqb c 39) (eqb c 10 || eqb c 13) refl refl runs (λ next r. left_of next cs last r)
left_of p.Closed (c ∷ cs) last runs = opened last c cs (eqb c 39) (eqb c 35) refl refl runs (λ next r. left_of next cs last r)
left_of p.Code (c ∷ cs) last runs = code_by last c cs (eqb c 36) refl runs (λ next r. left_of next cs last r)
left_of p.Decimal (c ∷ cs) last runs = digits_by is_ascii_digit p.Decimal last c cs (is_ascii_digit c) refl runs (λ r. left_of p.Decimal cs last r) (λ next r. left_of next cs last r)
left_of p.Dollar (c ∷ cs) last runs = digits_by is_ascii_hexdigit p.Hexadecimal last c cs (is_ascii_hexdigit c) refl runs (λ r. left_of p.Hexadecimal cs last r) (λ next r. left_of next cs last r)
left_of p.Hexadecimal (c ∷ cs) last runs = digits_by is_ascii_hexdigit p.Hexadecimal last c cs (is_ascii_hexdigit c) refl runs (λ r. left_of p.Hexadecimal cs last r) (λ next r. left_of next cs last r)

parts_are : (bytes : List ℕ) → 0 < length bytes → (parts : List (List ℕ)) → AreParts parts → bytes ≡ concat parts → IsConstant bytes
parts_are bytes some [] are is = absurd (let h = ap length is in omega arith)
parts_are bytes some (x ∷ xs) are is = record { part = x; parts = xs; spelled = is; is_part = are.0; are_parts = are.1 }

constant_by : (last : Part) (n : ℕ) (spelling : List ℕ) → 0 < length spelling → Between last spelling → IsPrefix (constant_of last n).shape spelling
constant_by p.Inside n spelling some b = record { parts = b.0; text = b.2.0; spelled = b.2.1; are_parts = b.1; each = b.2.2 }
constant_by p.Start n spelling some b = parts_are spelling some b.0 b.1 b.2
constant_by p.Closed n spelling some b = parts_are spelling some b.0 b.1 b.2
constant_by p.Code n spelling some b = parts_are spelling some b.0 b.1 b.2
constant_by p.Decimal n spelling some b = parts_are spelling some b.0 b.1 b.2
constant_by p.Dollar n spelling some b = parts_are spelling some b.0 b.1 b.2
constant_by p.Hexadecimal n spelling some b = parts_are spelling some b.0 b.1 b.2

-- how far a constant goes, and where it ends
record Reaches (n : ℕ) (part : Part) (bytes : List ℕ) (e : Extent) : Type 0 where
  pub count : ℕ
  pub last : Part
  pub runs : run part (take count bytes) ≡ Some last
  pub is : e ≡ constant_of last (n + count)
  pub within : count ≤ length bytes

reaches_no_more : (n : ℕ) (part : Part) (bytes : List ℕ) → Reaches n part bytes (constant_of part n)
reaches_no_more n part bytes =
    let same : n ≡ n + 0 = omega arith in
    record { count = 0; last = part; runs = refl; is = ap (constant_of part) same; within = omega arith }

reaches_by : (n : ℕ) (part : Part) (c : ℕ) (cs : List ℕ) (o : Option Part) → next_part part c ≡ o → ((next : Part) → Reaches (n + 1) next cs (constant_from (n + 1) next cs)) →
    Reaches n part (c ∷ cs) (option_map_or (λ next. constant_from (n + 1) next cs) o (constant_of part n))
reaches_by n part c cs None is more = reaches_no_more n part (c ∷ cs)
reaches_by n part c cs (Some next) is more =
    let r = more next in
    let m = r.count in
    let sum : n + 1 + m ≡ n + (1 + m) = omega arith in
    let inside : m ≤ length cs = r.within in
    record {
      count = 1 + m;
      last = r.last;
      runs = ap (run part) (take_more m c cs) ∙ ap (option_and_then (λ q. run q (take m cs))) is ∙ r.runs;
      is = r.is ∙ ap (constant_of r.last) sum;
      within = omega arith;
    }

reaches : (n : ℕ) (part : Part) (bytes : List ℕ) → Reaches n part bytes (constant_from n part bytes)
reaches n part [] = reaches_no_more n part []
reaches n part (c ∷ cs) = reaches_by n part c cs (next_part part c) refl (λ next. reaches (n + 1) next cs)

pub constant_sound : (bytes : List ℕ) → 0 < (constant_from 0 p.Start bytes).length → IsSound bytes (constant_from 0 p.Start bytes)
constant_sound bytes some =
    let r = reaches 0 p.Start bytes in
    let n = 0 + r.count in
    let same : n ≡ r.count = omega arith in
    let long : length (take r.count bytes) ≡ r.count = length-take-le r.count bytes r.within in
    let e : (constant_from 0 p.Start bytes).length ≡ n = ap (λ (x : Extent). x.length) r.is ∙ constant_of-length r.last n in
    let there : 0 < length (take r.count bytes) = omega arith in
    let front : IsPrefix (constant_of r.last n).shape (take r.count bytes) = constant_by r.last n (take r.count bytes) there (left_of p.Start (take r.count bytes) r.last r.runs) in
    let at_count : IsPrefix (constant_of r.last n).shape (take (constant_of r.last n).length bytes) = subst (λ (m : ℕ). IsPrefix (constant_of r.last n).shape (take m bytes)) (sym (constant_of-length r.last n ∙ same)) front in
    subst (IsSound bytes) (sym r.is) at_count
