-- First values as the productions that the grammar has for them.
use Rattle.std.proofs.Common.{◌≡◌, ℕ, suc, true, List, [], ◌∷◌, Some, None, Result, Ok, Err, refl, sym, ap, ◌∙◌}
use Rattle.pascal_grammar.specs.declared.kind.Kind.TheVariants as k
use Rattle.pascal_grammar.specs.declared.lexeme.Lexeme.{Lexeme}
use Rattle.pascal_grammar.specs.Asked as q
use Rattle.pascal_grammar.specs.Lexemes as v
use Rattle.pascal_grammar.specs.Productions.{Production}
use Rattle.pascal_grammar.specs.Productions as p
use Rattle.ll1_grammar.specs.Grammar.{leaf}
use Rattle.ll1_grammar.specs.Readers.{Fault, ◌>>=◌, made}
use Rattle.syntax_tree.specs.declared.expression.PlacedSign.{PlacedSign}
use Rattle.syntax_tree.specs.Expressions.{Parsed, of, word}
use Rattle.syntax_tree.specs.type_tree.Regrouped.{value_of, first_value}
use Rattle.expression_parser.specs.Gives.{Reads, ask, name_at}
use Rattle.expression_parser.specs.Reading.{begins, tail_of, sign_found, inside, selectors_at, call_at, closed_factor_at, control_at, named_at, named_factor_at, factor_at, factors_at, term_at, terms_at, simple_by, simple_at}
use Rattle.expression_parser.proofs.Shapes.{word_asked, second_read, pair_read, sign_asked}
use Rattle.type_parser.specs.parameter_parser.Chains.{chain_from, chain_at}
use Rattle.type_parser.proofs.Each.{End, Outcome, made_each, made_is}
use Rattle.type_parser.specs.initializer_parser.Reading.{value_at, field_value_at, more_field_values, field_list_at, field_values_at, more_values_at, value_list_at, values_at}

-- the same reader with more behind it
pub head : (r s : Outcome) (h : End → Outcome) → r ≡ s → (r >>= h) ≡ (s >>= h)
head r s h e = ap (λ (o : Outcome). o >>= h) e

-- ---- values that are no lists

module _ (d : ℕ) where
  -- behind the first factor
  abbrev behind_factor : Parsed → List Lexeme → Outcome
  behind_factor f us = factors_at (inside d) us >>= λ g. terms_at (inside d) g.1 >>= λ h. Ok (value_of (of p.unsigned (of p.term (f ∷ g.0 ∷ []) ∷ h.0 ∷ [])), h.1)

  pub signed : (ts : List Lexeme) (s : PlacedSign) → sign_found ts ≡ Some s → value_at d ts ≡ made p.signed_value (ask q.sign ∷ term_at (inside d) ∷ terms_at (inside d) ∷ []) ts
  unfolding value_at simple_by
  signed ts s e =
      let first : simple_at (inside d) ts ≡ made p.signed (ask q.sign ∷ term_at (inside d) ∷ terms_at (inside d) ∷ []) ts = rw e (second_read p.signed (ask q.sign) (term_at (inside d)) (terms_at (inside d)) (leaf (v.sign s.sign s.position)) ts (tail_of ts) (sign_asked ts s e)) in
      head _ _ (λ i. Ok (value_of i.0, i.1)) first
      ∙ made_each p.signed (ask q.sign ∷ term_at (inside d) ∷ terms_at (inside d) ∷ []) ts (λ i. Ok (value_of i.0, i.1))
      ∙ sym (made_is p.signed_value (ask q.sign ∷ term_at (inside d) ∷ terms_at (inside d) ∷ []) ts)

  -- what has no sign, by the reader of its first factor
  pub unsigned : (r : Reads) (ts : List Lexeme) → sign_found ts ≡ None → factor_at (inside d) ts ≡ made p.bare_factor (r ∷ []) ts → value_at d ts ≡ made p.value (r ∷ factors_at (inside d) ∷ terms_at (inside d) ∷ []) ts
  unfolding value_at simple_by term_at
  unsigned r ts e f =
      let first : simple_at (inside d) ts ≡ made p.unsigned (term_at (inside d) ∷ terms_at (inside d) ∷ []) ts = rw e refl in
      head _ _ (λ i. Ok (value_of i.0, i.1)) first
      ∙ made_each p.unsigned (term_at (inside d) ∷ terms_at (inside d) ∷ []) ts (λ i. Ok (value_of i.0, i.1))
      ∙ made_each p.term (factor_at (inside d) ∷ factors_at (inside d) ∷ []) ts (λ t. terms_at (inside d) t.1 >>= λ h. Ok (value_of (of p.unsigned (t.0 ∷ h.0 ∷ [])), h.1))
      ∙ head _ _ (λ f. behind_factor f.0 f.1) f
      ∙ made_each p.bare_factor (r ∷ []) ts (λ f. behind_factor f.0 f.1)
      ∙ sym (made_is p.value (r ∷ factors_at (inside d) ∷ terms_at (inside d) ∷ []) ts)

-- ---- several values in parentheses

abbrev pub close : Reads
close = ask (q.word k.Close)

abbrev pair_of : Parsed → End → Result ((Parsed × Parsed) × List Lexeme) (Fault Production)
pair_of t xs = Ok ((t, xs.0), xs.1)

abbrev ended : (Parsed × Parsed) × List Lexeme → Outcome
ended x = close x.1 >>= λ w. Ok (first_value x.0.0 x.0.1 w.0, w.1)

module _ (d : ℕ) (values : Reads) where
  -- behind the first value
  abbrev behind_value : Parsed → List Lexeme → Outcome
  behind_value t us = more_values_at values us >>= λ xs. close xs.1 >>= λ w. Ok (first_value t xs.0 w.0, w.1)

  others : (t : Parsed) (r : Outcome) → ((r >>= pair_of t) >>= ended) ≡ (r >>= λ xs. close xs.1 >>= λ w. Ok (first_value t xs.0 w.0, w.1))
  others t (Ok xs) = refl
  others t (Err f) = refl

  items : (r : Outcome) → ((r >>= λ x. more_values_at values x.1 >>= pair_of x.0) >>= ended) ≡ (r >>= λ x. behind_value x.0 x.1)
  items (Ok x) = others x.0 (more_values_at values x.1)
  items (Err f) = refl

  by_first : (ts : List Lexeme) (s : Outcome) → values ts ≡ s → values_at values ts ≡ (s >>= λ x. behind_value x.0 x.1)
  unfolding values_at value_list_at
  by_first ts s e = items (values ts) ∙ head _ _ (λ x. behind_value x.0 x.1) e

  pub lists : (l : Reads) (ts : List Lexeme) → values ts ≡ made p.list (l ∷ []) ts → values_at values ts ≡ made p.begins_with_list (l ∷ more_values_at values ∷ close ∷ []) ts
  lists l ts e =
      by_first ts _ e
      ∙ made_each p.list (l ∷ []) ts (λ x. behind_value x.0 x.1)
      ∙ sym (made_is p.begins_with_list (l ∷ more_values_at values ∷ close ∷ []) ts)

  pub signs : (ts : List Lexeme) (s : PlacedSign) → sign_found ts ≡ Some s → values ts ≡ made p.signed_value (ask q.sign ∷ term_at (inside d) ∷ terms_at (inside d) ∷ []) ts → values_at values ts ≡ made p.begins_with_sign (ask q.sign ∷ term_at (inside d) ∷ terms_at (inside d) ∷ more_values_at values ∷ close ∷ []) ts
  signs ts s f e =
      let here = sign_asked ts s f in
      by_first ts _ e
      ∙ made_each p.signed_value (ask q.sign ∷ term_at (inside d) ∷ terms_at (inside d) ∷ []) ts (λ x. behind_value x.0 x.1)
      ∙ head _ _ (λ a. term_at (inside d) a.1 >>= λ t. terms_at (inside d) t.1 >>= λ us. behind_value (of p.signed_value (a.0 ∷ t.0 ∷ us.0 ∷ [])) us.1) here
      ∙ sym (made_is p.begins_with_sign (ask q.sign ∷ term_at (inside d) ∷ terms_at (inside d) ∷ more_values_at values ∷ close ∷ []) ts
      ∙ head _ _ (λ a. term_at (inside d) a.1 >>= λ t. terms_at (inside d) t.1 >>= λ us. more_values_at values us.1 >>= λ xs. close xs.1 >>= λ w. Ok (of p.begins_with_sign (a.0 ∷ t.0 ∷ us.0 ∷ xs.0 ∷ w.0 ∷ []), w.1)) here)

  -- behind the first factor of the first value
  abbrev behind_first : Parsed → List Lexeme → Outcome
  behind_first f us = factors_at (inside d) us >>= λ g. terms_at (inside d) g.1 >>= λ h. behind_value (of p.value (f ∷ g.0 ∷ h.0 ∷ [])) h.1

  by_factor : (r : Reads) (ts : List Lexeme) → values ts ≡ made p.value (r ∷ factors_at (inside d) ∷ terms_at (inside d) ∷ []) ts → values_at values ts ≡ (r ts >>= λ f. behind_first f.0 f.1)
  by_factor r ts e = by_first ts _ e ∙ made_each p.value (r ∷ factors_at (inside d) ∷ terms_at (inside d) ∷ []) ts (λ x. behind_value x.0 x.1)

  pub closed : (ts : List Lexeme) → values ts ≡ made p.value (made p.closed_factor (closed_factor_at (inside d) ∷ []) ∷ factors_at (inside d) ∷ terms_at (inside d) ∷ []) ts → values_at values ts ≡ made p.begins_with_closed (closed_factor_at (inside d) ∷ factors_at (inside d) ∷ terms_at (inside d) ∷ more_values_at values ∷ close ∷ []) ts
  closed ts e =
      by_factor (made p.closed_factor (closed_factor_at (inside d) ∷ [])) ts e
      ∙ made_each p.closed_factor (closed_factor_at (inside d) ∷ []) ts (λ f. behind_first f.0 f.1)
      ∙ sym (made_is p.begins_with_closed (closed_factor_at (inside d) ∷ factors_at (inside d) ∷ terms_at (inside d) ∷ more_values_at values ∷ close ∷ []) ts)

  pub controls : (ts : List Lexeme) → values ts ≡ made p.value (control_at ∷ factors_at (inside d) ∷ terms_at (inside d) ∷ []) ts → values_at values ts ≡ made p.begins_with_control (ask (q.mark k.Caret) ∷ ask q.letter ∷ factors_at (inside d) ∷ terms_at (inside d) ∷ more_values_at values ∷ close ∷ []) ts
  unfolding control_at
  controls ts e =
      by_factor control_at ts e
      ∙ made_each p.control (ask (q.mark k.Caret) ∷ ask q.letter ∷ []) ts (λ f. behind_first f.0 f.1)
      ∙ sym (made_is p.begins_with_control (ask (q.mark k.Caret) ∷ ask q.letter ∷ factors_at (inside d) ∷ terms_at (inside d) ∷ more_values_at values ∷ close ∷ []) ts)

  pub names : (ts us : List Lexeme) (t : Parsed) → name_at ts ≡ Ok (t, us) → values ts ≡ made p.value (named_factor_at (inside d) ∷ factors_at (inside d) ∷ terms_at (inside d) ∷ []) ts
      → values_at values ts ≡ made p.begins_with_name (name_at ∷ made p.named_value (selectors_at (inside d) ∷ call_at (inside d) ∷ factors_at (inside d) ∷ terms_at (inside d) ∷ more_values_at values ∷ close ∷ []) ∷ []) ts
  unfolding named_factor_at named_at
  names ts us t named e =
      let whole : named_factor_at (inside d) ts ≡ made p.named_factor (name_at ∷ selectors_at (inside d) ∷ call_at (inside d) ∷ []) ts = pair_read p.named_factor name_at (selectors_at (inside d)) (call_at (inside d)) ts in
      let rs = selectors_at (inside d) ∷ call_at (inside d) ∷ factors_at (inside d) ∷ terms_at (inside d) ∷ more_values_at values ∷ close ∷ [] in
      by_factor (named_factor_at (inside d)) ts e
      ∙ head _ _ (λ f. behind_first f.0 f.1) whole
      ∙ made_each p.named_factor (name_at ∷ selectors_at (inside d) ∷ call_at (inside d) ∷ []) ts (λ f. behind_first f.0 f.1)
      ∙ head _ _ (λ a. selectors_at (inside d) a.1 >>= λ s. call_at (inside d) s.1 >>= λ c. behind_first (of p.named_factor (a.0 ∷ s.0 ∷ c.0 ∷ [])) c.1) named
      ∙ sym (made_is p.begins_with_name (name_at ∷ made p.named_value rs ∷ []) ts
      ∙ head _ _ (λ a. made p.named_value rs a.1 >>= λ y. Ok (of p.begins_with_name (a.0 ∷ y.0 ∷ []), y.1)) named
      ∙ made_each p.named_value rs us (λ y. Ok (of p.begins_with_name (t ∷ y.0 ∷ []), y.1)))

-- ---- values of fields

abbrev Three : Type 0
Three = (Parsed × Parsed × Parsed) × List Lexeme

abbrev three : Parsed → Parsed → End → Result Three (Fault Production)
three a b x = Ok ((a, b, x.0), x.1)

-- three parts read, and what is made of them
field_last : (a b : Parsed) (h : Three → Outcome) (r : Outcome) → ((r >>= three a b) >>= h) ≡ (r >>= λ x. h ((a, b, x.0), x.1))
field_last a b h (Ok x) = refl
field_last a b h (Err f) = refl

field_second : (values : Reads) (a : Parsed) (h : Three → Outcome) (r : Outcome) → ((r >>= λ b. values b.1 >>= three a b.0) >>= h) ≡ (r >>= λ b. values b.1 >>= λ x. h ((a, b.0, x.0), x.1))
field_second values a h (Ok b) = field_last a b.0 h (values b.1)
field_second values a h (Err f) = refl

field_first : (values : Reads) (h : Three → Outcome) (r : Outcome) → ((r >>= λ a. ask (q.word k.Colon) a.1 >>= λ b. values b.1 >>= three a.0 b.0) >>= h) ≡ (r >>= λ a. ask (q.word k.Colon) a.1 >>= λ b. values b.1 >>= λ x. h ((a.0, b.0, x.0), x.1))
field_first values h (Ok a) = field_second values a.0 h (ask (q.word k.Colon) a.1)
field_first values h (Err f) = refl

module _ (values : Reads) (ts us : List Lexeme) (t : Parsed) (named : name_at ts ≡ Ok (t, us)) where
  -- a field, with what is made of it
  field_with : (h : Three → Outcome) → (field_value_at values ts >>= h) ≡ (ask (q.word k.Colon) us >>= λ b. values b.1 >>= λ x. h ((t, b.0, x.0), x.1))
  unfolding field_value_at
  field_with h = field_first values h (name_at ts) ∙ head _ _ (λ a. ask (q.word k.Colon) a.1 >>= λ b. values b.1 >>= λ x. h ((a.0, b.0, x.0), x.1)) named

  abbrev more_fields : Reads
  more_fields = chain_at (more_field_values values)

  abbrev fields_ended : Parsed × Parsed × Parsed → List Lexeme → Outcome
  fields_ended x vs = more_fields vs >>= λ y. close y.1 >>= λ w. Ok (of p.begins_with_name (x.0 ∷ of p.field_values (x.1 ∷ x.2 ∷ y.0 ∷ w.0 ∷ []) ∷ []), w.1)

  abbrev listed : Parsed × Parsed × Parsed → End → Result (((Parsed × Parsed × Parsed) × Parsed) × List Lexeme) (Fault Production)
  listed x y = Ok ((x, y.0), y.1)

  abbrev list_ended : ((Parsed × Parsed × Parsed) × Parsed) × List Lexeme → Outcome
  list_ended x = close x.1 >>= λ w. Ok (of p.begins_with_name (x.0.0.0 ∷ of p.field_values (x.0.0.1 ∷ x.0.0.2 ∷ x.0.1 ∷ w.0 ∷ []) ∷ []), w.1)

  more_by : (x : Parsed × Parsed × Parsed) (r : Outcome) → ((r >>= λ y. listed x y) >>= list_ended) ≡ (r >>= λ y. close y.1 >>= λ w. Ok (of p.begins_with_name (x.0 ∷ of p.field_values (x.1 ∷ x.2 ∷ y.0 ∷ w.0 ∷ []) ∷ []), w.1))
  more_by x (Ok y) = refl
  more_by x (Err f) = refl

  list_by : (r : Result Three (Fault Production)) → ((r >>= λ x. more_fields x.1 >>= λ y. listed x.0 y) >>= list_ended) ≡ (r >>= λ x. fields_ended x.0 x.1)
  list_by (Ok x) = more_by x.0 (more_fields x.1)
  list_by (Err f) = refl

  pub fields : field_values_at values ts ≡ made p.begins_with_name (name_at ∷ made p.field_values (ask (q.word k.Colon) ∷ values ∷ more_fields ∷ close ∷ []) ∷ []) ts
  unfolding field_values_at field_list_at
  fields =
      let rs = ask (q.word k.Colon) ∷ values ∷ more_fields ∷ close ∷ [] in
      list_by (field_value_at values ts)
      ∙ field_with (λ x. fields_ended x.0 x.1)
      ∙ sym (made_is p.begins_with_name (name_at ∷ made p.field_values rs ∷ []) ts
      ∙ head _ _ (λ a. made p.field_values rs a.1 >>= λ y. Ok (of p.begins_with_name (a.0 ∷ y.0 ∷ []), y.1)) named
      ∙ made_each p.field_values rs us (λ y. Ok (of p.begins_with_name (t ∷ y.0 ∷ []), y.1)))

abbrev joined : Reads → ℕ → Three → Outcome
joined values i x = chain_from (more_field_values values) i x.1 >>= λ y. Ok (of p.next_field_value (word ∷ x.0.0 ∷ x.0.1 ∷ x.0.2 ∷ y.0 ∷ []), y.1)

-- one field more
pub next_field : (values : Reads) (i : ℕ) (x : Lexeme) (ts : List Lexeme) → begins k.Semicolon (x ∷ ts) ≡ true → chain_from (more_field_values values) (suc i) (x ∷ ts) ≡ made p.next_field_value (ask (q.word k.Semicolon) ∷ name_at ∷ ask (q.word k.Colon) ∷ values ∷ chain_from (more_field_values values) i ∷ []) (x ∷ ts)
unfolding chain_from field_value_at
next_field values i x ts e =
    let rs = name_at ∷ ask (q.word k.Colon) ∷ values ∷ chain_from (more_field_values values) i ∷ [] in
    let first : chain_from (more_field_values values) (suc i) (x ∷ ts) ≡ (field_value_at values ts >>= joined values i) = rw e refl in
    first
    ∙ field_first values (joined values i) (name_at ts)
    ∙ sym (made_is p.next_field_value (ask (q.word k.Semicolon) ∷ rs) (x ∷ ts)
    ∙ head _ _ (λ w. name_at w.1 >>= λ a. ask (q.word k.Colon) a.1 >>= λ b. values b.1 >>= λ v. chain_from (more_field_values values) i v.1 >>= λ y. Ok (of p.next_field_value (w.0 ∷ a.0 ∷ b.0 ∷ v.0 ∷ y.0 ∷ []), y.1)) (word_asked k.Semicolon x ts e))
