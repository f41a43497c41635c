-- The readers of fields meet the grammar, where that of types does.
use Rattle.std.proofs.Common.{◌≡◌, ℕ, zero, suc, ◌≤◌, Bool, true, false, ◌&&◌, List, [], ◌∷◌, length, Option, Some, Result, Ok, Err, refl, sym, ap, subst, ◌∙◌, arith}
use Rattle.pascal_grammar.specs.declared.kind.Kind.{Kind}
use Rattle.pascal_grammar.specs.declared.kind.Kind.TheVariants as k
use Rattle.pascal_grammar.specs.declared.lexeme.Lexeme.{Lexeme}
use Rattle.pascal_grammar.specs.Asked.{Asked, same}
use Rattle.pascal_grammar.specs.Asked as q
use Rattle.pascal_grammar.specs.Lexemes.{kind_of, front_kind}
use Rattle.pascal_grammar.specs.Parts.{Part}
use Rattle.pascal_grammar.specs.Parts as n
use Rattle.pascal_grammar.specs.Productions.{Production, counts, left_out}
use Rattle.pascal_grammar.specs.Choices.{choose, choose_by}
use Rattle.pascal_grammar.specs.Rules.{grammar}
use Rattle.pascal_grammar.proofs.Samples.{always}
use Rattle.pascal_grammar.proofs.Tables.{Follow}
use Rattle.pascal_grammar.proofs.Reading.{Reads, asked}
use Rattle.ll1_grammar.specs.Grammar.{Symbol, token, part, nil, pair, node}
use Rattle.ll1_grammar.specs.Readers.{Fault, ◌>>=◌, through, made}
use Rattle.ll1_grammar.proofs.Meeting.{all, Meets, AllJoin, then_within}
use Rattle.syntax_tree.specs.Expressions.{of, word}
use Rattle.expression_parser.specs.Gives.{ask}
use Rattle.expression_parser.specs.Gives as g
use Rattle.expression_parser.specs.Reading.{begins}
use Rattle.expression_parser.proofs.Shapes.{same_kind, word_asked}
use Rattle.type_parser.specs.parameter_parser.Reading.{identifiers_at}
use Rattle.type_parser.proofs.parameter_parser.Behind.{at_kind, whole_step, known_step, last_part}
use Rattle.type_parser.proofs.parameter_parser.Shapes.{four_of, fourth, three_read}
use Rattle.type_parser.proofs.parameter_parser.Sound.{identifiers_reads}
use Rattle.type_parser.specs.Reading.{Group, group_at, begins_name, goes_on, groups_from, groups_at, more_groups, with_groups, grouped_at}
use Rattle.type_parser.proofs.Each.{End, Outcome}

-- both of two tests
both : (a b : Bool) → (a && b) ≡ true → (a ≡ true) × (b ≡ true)
both true true e = (refl, refl)
both true false e = absurd cc
both false b e = absurd cc

module _ (group next : Production) (d : ℕ) (type_at end_at : g.Reads) (types : (ts : List Lexeme) → Reads n.type d ts (type_at ts)) where
  abbrev Groups : Type 0
  Groups = List Group × List Lexeme

  -- what groups and what ends them make, behind the first group and with it
  abbrev ended : List Group → End → Outcome
  ended all e = Ok (more_groups group next all e.0, e.1)

  abbrev all_ended : List Group → End → Outcome
  all_ended all e = Ok (with_groups group next all e.0, e.1)

  abbrev closes : Groups → Outcome
  closes y = end_at y.1 >>= ended y.0

  abbrev all_closes : Groups → Outcome
  all_closes y = end_at y.1 >>= all_ended y.0

  abbrev joined : Group → Groups → Result Groups (Fault Production)
  joined x y = Ok (x ∷ y.0, y.1)

  -- one more, behind a semicolon
  abbrev again_of : End → Outcome
  again_of z = Ok (of next (word ∷ z.0 ∷ []), z.1)

  -- groups behind the first, and what ends them
  abbrev rest_at : ℕ → g.Reads
  rest_at i ts = groups_from type_at i ts >>= closes

  abbrev grouped : ℕ → g.Reads
  grouped i = made group (identifiers_at ∷ ask (q.word k.Colon) ∷ type_at ∷ rest_at i ∷ [])

  same_answer : (r : Outcome) → (r >>= ended []) ≡ r
  same_answer (Ok x) = refl
  same_answer (Err f) = refl

  ends_by : (x : Group) (y : List Group) (r : Outcome) → (r >>= ended (x ∷ y)) ≡ (((r >>= ended y) >>= four_of group x.0 x.1 x.2) >>= again_of)
  ends_by x y (Ok e) = refl
  ends_by x y (Err f) = refl

  more_by : (x : Group) (r : Result Groups (Fault Production)) → ((r >>= joined x) >>= closes) ≡ (((r >>= closes) >>= four_of group x.0 x.1 x.2) >>= again_of)
  more_by x (Ok y) = ends_by x y.0 (end_at y.1)
  more_by x (Err f) = refl

  group_by : (i : ℕ) (r : Result (Group × List Lexeme) (Fault Production)) → ((r >>= λ x. groups_from type_at i x.1 >>= joined x.0) >>= closes) ≡ ((r >>= fourth group (rest_at i)) >>= again_of)
  group_by i (Ok x) = more_by x.0 (groups_from type_at i x.1)
  group_by i (Err f) = refl

  first_ends : (x : Group) (y : List Group) (r : Outcome) → (r >>= all_ended (x ∷ y)) ≡ ((r >>= ended y) >>= four_of group x.0 x.1 x.2)
  first_ends x y (Ok e) = refl
  first_ends x y (Err f) = refl

  first_more : (x : Group) (r : Result Groups (Fault Production)) → ((r >>= joined x) >>= all_closes) ≡ ((r >>= closes) >>= four_of group x.0 x.1 x.2)
  first_more x (Ok y) = first_ends x y.0 (end_at y.1)
  first_more x (Err f) = refl

  first_group : (r : Result (Group × List Lexeme) (Fault Production)) → ((r >>= λ x. groups_from type_at (length x.1) x.1 >>= joined x.0) >>= all_closes) ≡ (r >>= fourth group (λ us. rest_at (length us) us))
  first_group (Ok x) = first_more x.0 (groups_from type_at (length x.1) x.1)
  first_group (Err f) = refl

  -- a semicolon, and a group behind it
  abbrev alone : End → Outcome
  alone u = Ok (pair u.0 nil, u.1)

  abbrev behind_word : End → Outcome
  behind_word u = Ok (pair word u.0, u.1)

  abbrev node_of : End → Outcome
  node_of u = Ok (node next u.0, u.1)

  next_by : (r : Outcome) → (r >>= again_of) ≡ ((r >>= alone) >>= behind_word) >>= node_of
  next_by (Ok z) = refl
  next_by (Err f) = refl

  next_read : (item : g.Reads) (ts us : List Lexeme) → ask (q.word k.Semicolon) ts ≡ Ok (word, us) → (item us >>= again_of) ≡ made next (ask (q.word k.Semicolon) ∷ item ∷ []) ts
  next_read item ts us e = rw e (next_by (item us))

  step : (i : ℕ) (x : Lexeme) (ts : List Lexeme) → same (kind_of x) k.Semicolon ≡ true → goes_on (x ∷ ts) ≡ true → rest_at (suc i) (x ∷ ts) ≡ made next (ask (q.word k.Semicolon) ∷ grouped i ∷ []) (x ∷ ts)
  unfolding groups_from group_at
  step i x ts e b =
      rw b (group_by i (group_at type_at ts))
      ∙ ap (λ (r : Outcome). r >>= again_of) (three_read group identifiers_at (ask (q.word k.Colon)) type_at (rest_at i) ts)
      ∙ next_read (grouped i) (x ∷ ts) ts (word_asked k.Semicolon x ts e)

  -- ---- what they meet

  module _ (ends : Part) (is : grammar.body group ≡ part n.identifiers ∷ token (q.word k.Colon) ∷ part n.type ∷ part ends ∷ []) (j : AllJoin grammar Follow (part n.identifiers ∷ token (q.word k.Colon) ∷ part n.type ∷ part ends ∷ []) (Follow (grammar.owner group)))
      (a : always group ≡ true) (c : counts group ≡ false) (o : left_out group ≡ false)
      (is_next : grammar.body next ≡ token (q.word k.Semicolon) ∷ part (grammar.owner group) ∷ []) (j_next : AllJoin grammar Follow (token (q.word k.Semicolon) ∷ part (grammar.owner group) ∷ []) (Follow (grammar.owner next)))
      (a_next : always next ≡ true) (c_next : counts next ≡ false) (o_next : left_out next ≡ false) (owned : grammar.owner next ≡ ends)
      (chosen : (ts : List Lexeme) → begins_name ts ≡ true → choose (grammar.owner group) (front_kind ts) ≡ Some group)
      (chosen_next : choose_by (grammar.owner next) k.Semicolon ≡ Some next)
      (end_reads : (ts : List Lexeme) → goes_on ts ≡ false → Reads ends d ts (end_at ts)) where
    abbrev F : Option Kind → Type 0
    F = Follow (grammar.owner group)

    grouped_reads : (rest : g.Reads) (m : ℕ) → ((us : List Lexeme) → length us ≤ m → Reads ends d us (rest us)) → (ts : List Lexeme) → length ts ≤ m → begins_name ts ≡ true → Reads (grammar.owner group) d ts (made group (identifiers_at ∷ ask (q.word k.Colon) ∷ type_at ∷ rest ∷ []) ts)
    grouped_reads rest m more ts l b =
        let whole = then_within grammar Follow (part n.identifiers) (token (q.word k.Colon) ∷ part n.type ∷ part ends ∷ []) F j.0 d ts (identifiers_at ts) (through (ask (q.word k.Colon) ∷ type_at ∷ rest ∷ [])) (identifiers_reads d ts)
        (λ us x. then_within grammar Follow (token (q.word k.Colon)) (part n.type ∷ part ends ∷ []) F j.1.0 d us (ask (q.word k.Colon) us) (through (type_at ∷ rest ∷ [])) (asked (q.word k.Colon) refl d us)
        (λ vs y. then_within grammar Follow (part n.type) (part ends ∷ []) F j.1.1.0 d vs (type_at vs) (through (rest ∷ [])) (types vs)
        (λ ws z. last_part ends F j.1.1.1 d ws rest (more ws (omega arith))))) in
        let rs = identifiers_at ∷ ask (q.word k.Colon) ∷ type_at ∷ rest ∷ [] in
        whole_step group a o c d ts (chosen ts b) rs (subst (λ (zs : List (Symbol Asked Part)). Meets grammar Follow (all grammar Follow zs F) d ts (through rs ts)) (sym is) whole)

    next_reads : (i : ℕ) → ((us : List Lexeme) → length us ≤ i → Reads ends d us (rest_at i us)) → (x : Lexeme) (ts : List Lexeme) → length ts ≤ i → same (kind_of x) k.Semicolon ≡ true → begins_name ts ≡ true → Reads ends d (x ∷ ts) (made next (ask (q.word k.Semicolon) ∷ grouped i ∷ []) (x ∷ ts))
    next_reads i more x ts l e b =
        let one = last_part (grammar.owner group) (Follow (grammar.owner next)) j_next.1 d ts (grouped i) (grouped_reads (rest_at i) i more ts l b) in
        let is_semicolon : kind_of x ≡ k.Semicolon = same_kind x k.Semicolon e in
        subst (λ (m : Part). Reads m d (x ∷ ts) (made next (ask (q.word k.Semicolon) ∷ grouped i ∷ []) (x ∷ ts))) owned
        (known_step next (q.word k.Semicolon) (part (grammar.owner group) ∷ []) is_next j_next a_next o_next c_next d x ts (at_kind (grammar.owner next) x k.Semicolon _ is_semicolon chosen_next) e (grouped i ∷ []) one)

    rest_with : (i : ℕ) → ((us : List Lexeme) → length us ≤ i → Reads ends d us (rest_at i us)) → (ts : List Lexeme) → length ts ≤ suc i → (b : Bool) → goes_on ts ≡ b → Reads ends d ts (rest_at (suc i) ts)
    unfolding groups_from
    rest_with i more ts l false b = let e : rest_at (suc i) ts ≡ end_at ts = rw b (same_answer (end_at ts)) in subst (λ (r : Outcome). Reads ends d ts r) (sym e) (end_reads ts b)
    rest_with i more [] l true b = absurd cc
    rest_with i more (x ∷ ts) l true b =
        let t = both (begins k.Semicolon (x ∷ ts)) (begins_name ts) b in
        subst (λ (r : Outcome). Reads ends d (x ∷ ts) r) (sym (step i x ts t.0 b)) (next_reads i more x ts (let m : length (x ∷ ts) ≤ suc i = l in omega arith) t.0 t.1)

    rest_reads : (i : ℕ) (ts : List Lexeme) → length ts ≤ i → Reads ends d ts (rest_at i ts)
    unfolding groups_from
    rest_reads zero [] l = subst (λ (r : Outcome). Reads ends d [] r) (sym (same_answer (end_at []))) (end_reads [] refl)
    rest_reads zero (x ∷ ts) l = absurd (omega arith)
    rest_reads (suc i) ts l = rest_with i (λ us m. rest_reads i us m) ts l (goes_on ts) refl

    pub groups_reads : (ts : List Lexeme) → begins_name ts ≡ true → Reads (grammar.owner group) d ts (grouped_at group next type_at end_at ts)
    unfolding groups_at group_at
    groups_reads ts b =
        let rest = λ (us : List Lexeme). rest_at (length us) us in
        subst (λ (r : Outcome). Reads (grammar.owner group) d ts r) (sym (first_group (group_at type_at ts) ∙ three_read group identifiers_at (ask (q.word k.Colon)) type_at rest ts))
        (grouped_reads rest (length ts) (λ us m. rest_reads (length us) us (omega arith)) ts (omega arith) b)
