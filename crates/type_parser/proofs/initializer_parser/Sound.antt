-- The readers of first values meet the grammar.
use Rattle.std.proofs.Common.{◌≡◌, ℕ, zero, suc, ◌≤◌, Bool, true, false, ◌&&◌, List, [], ◌∷◌, length, Some, None, Ok, Err, refl, sym, ap, subst, ◌∙◌, arith}
use Rattle.pascal_grammar.specs.declared.kind.Kind.{Kind}
use Rattle.pascal_grammar.specs.declared.kind.Kind.TheVariants as k
use Rattle.pascal_grammar.specs.declared.lexeme.Lexeme.{Lexeme}
use Rattle.pascal_grammar.specs.Operators.{adder_of, multiplier_of}
use Rattle.pascal_grammar.specs.Asked.{same, is_name}
use Rattle.pascal_grammar.specs.Asked as q
use Rattle.pascal_grammar.specs.Lexemes.{kind_of, front_kind}
use Rattle.pascal_grammar.specs.Parts.{Part}
use Rattle.pascal_grammar.specs.Parts as n
use Rattle.pascal_grammar.specs.Productions as p
use Rattle.pascal_grammar.specs.Choices.{choose, choose_by}
use Rattle.pascal_grammar.specs.Rules.{grammar}
use Rattle.pascal_grammar.proofs.Somes.{joins}
use Rattle.pascal_grammar.proofs.Tables.{Follow}
use Rattle.pascal_grammar.proofs.Reading.{Reads, AreRead, asked, plain, begun, empty, none}
use Rattle.ll1_grammar.specs.Grammar.{token, part}
use Rattle.ll1_grammar.specs.Readers.{Syntax, through, made, opened}
use Rattle.ll1_grammar.proofs.Meeting.{then_within}
use Rattle.syntax_tree.specs.Expressions.{of, word}
use Rattle.expression_parser.specs.declared.lookahead.FactorStart.{FactorStart}
use Rattle.expression_parser.specs.declared.lookahead.FactorStart.TheVariants as factor
use Rattle.expression_parser.specs.Gives.{Inside, ask, name_at}
use Rattle.expression_parser.specs.Gives as g
use Rattle.expression_parser.specs.Starting.{names as are_names, selector_start, factor_start}
use Rattle.expression_parser.specs.Reading.{begins, sign_found, inside, selectors_by, selectors_at, call_by, call_at, control_at, named_at, named_factor_at, closed_factor_at, factor_by, factor_at, factors_by, factors_at, term_at, terms_by, terms_at, list_from}
use Rattle.expression_parser.proofs.Shapes.{same_kind, pair_read}
use Rattle.expression_parser.proofs.Sound as expressions
use Rattle.type_parser.specs.parameter_parser.Chains.{chain_from, chain_at}
use Rattle.type_parser.proofs.parameter_parser.Behind.{Outcome, at_kind, absent, present, opens_at, known_step, last_part, list_reads}
use Rattle.type_parser.specs.initializer_parser.Reading.{value_at, more_field_values, field_values_at, more_values_at, values_at, begins_field, items_by, list_at, initializer_by, initializer_at, value_parts, valued_inside}
use Rattle.type_parser.proofs.initializer_parser.Values.{close, signed, unsigned, lists, signs, closed, controls, names, fields, next_field}
use Rattle.type_parser.proofs.Named.{there, sign_there, no_selectors, no_call, no_factors, no_terms, unsigned_name, name_factor}

-- what the readers of fewer constructs read
abbrev pub Held : Part → Type 0
Held n.list_items = Unit {0}
Held m = ⊥

no_comma : (y : Kind) → same y k.Comma ≡ false → choose_by n.more_initializers y ≡ Some p.no_initializers
no_comma k.Comma e = absurd cc
no_comma y e = refl

no_semicolon : (y : Kind) → same y k.Semicolon ≡ false → choose_by n.more_field_values y ≡ Some p.no_field_values
no_semicolon k.Semicolon e = absurd cc
no_semicolon y e = refl

-- ---- values that are no lists

module _ (d : ℕ) where
  abbrev b : Inside
  b = inside d

  terms_reads : (ts : List Lexeme) → Reads n.terms d ts (terms_at b ts)
  terms_reads = expressions.terms_reads d b (expressions.inside_reads d)

  factors_reads : (ts : List Lexeme) → Reads n.factors d ts (factors_at b ts)
  factors_reads = expressions.factors_reads d b (expressions.inside_reads d)

  call_reads : (ts : List Lexeme) → Reads n.call d ts (call_at b ts)
  call_reads = expressions.call_reads d b (expressions.inside_reads d)

  selectors_reads : (ts : List Lexeme) → Reads n.selectors d ts (selectors_at b ts)
  selectors_reads = expressions.selectors_reads d b (expressions.inside_reads d)

  term_reads : (ts : List Lexeme) → Reads n.term d ts (term_at b ts)
  term_reads = expressions.term_reads d b (expressions.inside_reads d)

  closed_reads : (ts : List Lexeme) → Reads n.closed_factor d ts (closed_factor_at b ts)
  closed_reads = expressions.closed_factor_reads d b (expressions.inside_reads d)

  abbrev wrapped : g.Reads
  wrapped = made p.closed_factor (closed_factor_at b ∷ [])

  control_reads : (ts : List Lexeme) → choose n.bare_factor (front_kind ts) ≡ Some p.control → Reads n.bare_factor d ts (control_at ts)
  unfolding control_at
  control_reads ts c = plain p.control d ts c refl refl refl (ask (q.mark k.Caret) ∷ ask q.letter ∷ []) (asked (q.mark k.Caret) refl d, (asked q.letter refl d, tt))

  named_reads : (ts : List Lexeme) → choose n.bare_factor (front_kind ts) ≡ Some p.named_factor → Reads n.bare_factor d ts (named_factor_at b ts)
  unfolding named_factor_at named_at
  named_reads ts c = subst (λ (r : Outcome). Reads n.bare_factor d ts r) (sym (pair_read p.named_factor name_at (selectors_at b) (call_at b) ts)) (plain p.named_factor d ts c refl refl refl (name_at ∷ selectors_at b ∷ call_at b ∷ []) (asked q.name refl d, (selectors_reads, (call_reads, tt))))

  wrapped_reads : (ts : List Lexeme) → choose n.bare_factor (front_kind ts) ≡ Some p.closed_factor → Reads n.bare_factor d ts (wrapped ts)
  wrapped_reads ts c = plain p.closed_factor d ts c refl refl refl (closed_factor_at b ∷ []) (closed_reads, tt)

  -- by the reader of the first factor
  value_with : (r : g.Reads) (ts : List Lexeme) → sign_found ts ≡ None → factor_at b ts ≡ made p.bare_factor (r ∷ []) ts → choose n.initializer (front_kind ts) ≡ Some p.value → Reads n.bare_factor d ts (r ts) → Reads n.initializer d ts (value_at d ts)
  value_with r ts s f c m = subst (λ (o : Outcome). Reads n.initializer d ts o) (sym (unsigned d r ts s f))
      (begun p.value d ts c refl refl refl (part n.bare_factor) (part n.factors ∷ part n.terms ∷ []) refl (joins p.value) r (factors_at b ∷ terms_at b ∷ []) m (factors_reads, (terms_reads, tt)))

  caret_factor : (x : Lexeme) (ts : List Lexeme) → kind_of x ≡ k.Caret → factor_at b (x ∷ ts) ≡ made p.bare_factor (control_at ∷ []) (x ∷ ts)
  unfolding factor_by
  caret_factor x ts e = rw e refl

  closed_factor : (x : Lexeme) (ts : List Lexeme) (y : Kind) → kind_of x ≡ y → factor_start (Some y) ≡ factor.Closed → factor_at b (x ∷ ts) ≡ made p.bare_factor (wrapped ∷ []) (x ∷ ts)
  unfolding factor_by
  closed_factor x ts y e f = ap (λ (w : Kind). factor_by (factor_start (Some w)) b (x ∷ ts)) e ∙ ap (λ (s : FactorStart). factor_by s b (x ∷ ts)) f

  closed_at_end : factor_at b [] ≡ made p.bare_factor (wrapped ∷ []) []
  unfolding factor_by
  closed_at_end = refl

  signed_reads : (x : Lexeme) (ts : List Lexeme) (y : Kind) → kind_of x ≡ y → choose_by n.initializer y ≡ Some p.signed_value → (s : _) → sign_found (x ∷ ts) ≡ Some s → Reads n.initializer d (x ∷ ts) (value_at d (x ∷ ts))
  signed_reads x ts y e c s f = subst (λ (o : Outcome). Reads n.initializer d (x ∷ ts) o) (sym (signed d (x ∷ ts) s f))
      (plain p.signed_value d (x ∷ ts) (at_kind n.initializer x y _ e c) refl refl refl (ask q.sign ∷ term_at b ∷ terms_at b ∷ []) (asked q.sign refl d, (term_reads, (terms_reads, tt))))

  named_value_reads : (x : Lexeme) (ts : List Lexeme) (y : Kind) → kind_of x ≡ y → is_name y ≡ true → choose_by n.initializer y ≡ Some p.value → choose_by n.bare_factor y ≡ Some p.named_factor → Reads n.initializer d (x ∷ ts) (value_at d (x ∷ ts))
  named_value_reads x ts y e i c c2 = value_with (named_factor_at b) (x ∷ ts) (unsigned_name d x y e i ts) (name_factor d x y e i ts) (at_kind n.initializer x y _ e c) (named_reads (x ∷ ts) (at_kind n.bare_factor x y _ e c2))

  value_by_kind : (x : Lexeme) (ts : List Lexeme) (y : Kind) → kind_of x ≡ y → same y k.Open ≡ false → Reads n.initializer d (x ∷ ts) (value_at d (x ∷ ts))
  value_by_kind x ts k.Open e o = absurd cc
  value_by_kind x ts k.Plus e o = signed_reads x ts k.Plus e refl _ (sign_there x ts k.Plus _ e refl)
  value_by_kind x ts k.Minus e o = signed_reads x ts k.Minus e refl _ (sign_there x ts k.Minus _ e refl)
  value_by_kind x ts k.Caret e o = value_with control_at (x ∷ ts) (rw e refl) (caret_factor x ts e) (at_kind n.initializer x k.Caret _ e refl) (control_reads (x ∷ ts) (at_kind n.bare_factor x k.Caret _ e refl))
  value_by_kind x ts k.Letter e o = named_value_reads x ts k.Letter e refl refl refl
  value_by_kind x ts k.Absolute e o = named_value_reads x ts k.Absolute e refl refl refl
  value_by_kind x ts k.External e o = named_value_reads x ts k.External e refl refl refl
  value_by_kind x ts k.Forward e o = named_value_reads x ts k.Forward e refl refl refl
  value_by_kind x ts k.Interrupt e o = named_value_reads x ts k.Interrupt e refl refl refl
  value_by_kind x ts k.Name e o = named_value_reads x ts k.Name e refl refl refl
  value_by_kind x ts y e o = value_with wrapped (x ∷ ts) (rw e refl) (closed_factor x ts y e refl) (at_kind n.initializer x y _ e refl) (wrapped_reads (x ∷ ts) (at_kind n.bare_factor x y _ e refl))

  value_reads : (ts : List Lexeme) → begins k.Open ts ≡ false → Reads n.initializer d ts (value_at d ts)
  value_reads [] o = value_with wrapped [] refl closed_at_end refl (wrapped_reads [] refl)
  value_reads (x ∷ ts) o = value_by_kind x ts (kind_of x) refl o

-- ---- lists

module _ (d : ℕ) (b : Inside) (h : AreRead Held d b) where
  abbrev parenthesized : g.Reads
  parenthesized = opened p.initializer_list (λ e l. ask (q.mark k.Open) ∷ l n.list_items ∷ []) b

  abbrev values : g.Reads
  values = initializer_at d b

  parenthesized_reads : (ts : List Lexeme) → begins k.Open ts ≡ true → Reads n.initializer_list d ts (parenthesized ts)
  parenthesized_reads ts e = opens_at Held p.initializer_list k.Open (q.mark k.Open) refl refl refl refl refl (part n.list_items ∷ []) refl (joins p.initializer_list) (λ e l. l n.list_items ∷ []) d b h (λ e l m. (m.meets n.list_items tt, tt)) ts e

  initializer_with : (ts : List Lexeme) (c : Bool) → begins k.Open ts ≡ c → Reads n.initializer d ts (initializer_by c d b ts)
  unfolding initializer_by list_at
  initializer_with ts true e = begun p.list d ts (present n.initializer k.Open p.list refl ts e) refl refl refl (part n.initializer_list) [] refl (joins p.list) parenthesized [] (parenthesized_reads ts e) tt
  initializer_with ts false e = value_reads d ts e

  pub initializers_read : (ts : List Lexeme) → Reads n.initializer d ts (values ts)
  initializers_read ts = initializer_with ts (begins k.Open ts) refl

  values_end : (ts : List Lexeme) → begins k.Comma ts ≡ false → Reads n.more_initializers d ts (Ok (of p.no_initializers [], ts))
  values_end ts e = empty p.no_initializers d ts (absent n.more_initializers k.Comma (Some p.no_initializers) refl no_comma ts e) refl refl refl refl

  more_reads : (ts : List Lexeme) → Reads n.more_initializers d ts (more_values_at values ts)
  more_reads ts = list_reads k.Comma p.no_initializers p.next_initializer (part n.initializer) d values initializers_read refl (joins p.next_initializer) refl refl refl refl values_end (length ts) ts (omega arith)

  -- ---- values in parentheses, by the reader of the first

  many_with : (ts : List Lexeme) (r : Outcome) → values_at values ts ≡ r → Reads n.list_items d ts r → Reads n.list_items d ts (values_at values ts)
  many_with ts r e m = subst (λ (o : Outcome). Reads n.list_items d ts o) (sym e) m

  value_at_front : (ts : List Lexeme) → begins k.Open ts ≡ false → values ts ≡ value_at d ts
  unfolding initializer_by
  value_at_front ts o = rw o refl

  listed_reads : (x : Lexeme) (ts : List Lexeme) → kind_of x ≡ k.Open → Reads n.list_items d (x ∷ ts) (values_at values (x ∷ ts))
  unfolding initializer_by list_at
  listed_reads x ts e =
      let open_there : begins k.Open (x ∷ ts) ≡ true = rw e refl in
      let first : values (x ∷ ts) ≡ made p.list (parenthesized ∷ []) (x ∷ ts) = ap (λ (c : Bool). initializer_by c d b (x ∷ ts)) open_there in
      many_with (x ∷ ts) _ (lists d values parenthesized (x ∷ ts) first)
      (begun p.begins_with_list d (x ∷ ts) (at_kind n.list_items x k.Open _ e refl) refl refl refl (part n.initializer_list) (part n.more_initializers ∷ token (q.word k.Close) ∷ []) refl (joins p.begins_with_list) parenthesized (more_values_at values ∷ close ∷ []) (parenthesized_reads (x ∷ ts) (rw e refl)) (more_reads, (asked (q.word k.Close) refl d, tt)))

  signed_items : (x : Lexeme) (ts : List Lexeme) (y : Kind) → kind_of x ≡ y → choose_by n.list_items y ≡ Some p.begins_with_sign → begins k.Open (x ∷ ts) ≡ false → (s : _) → sign_found (x ∷ ts) ≡ Some s → Reads n.list_items d (x ∷ ts) (values_at values (x ∷ ts))
  signed_items x ts y e c o s f =
      many_with (x ∷ ts) _ (signs d values (x ∷ ts) s f (value_at_front (x ∷ ts) o ∙ signed d (x ∷ ts) s f))
      (plain p.begins_with_sign d (x ∷ ts) (at_kind n.list_items x y _ e c) refl refl refl (ask q.sign ∷ term_at (inside d) ∷ terms_at (inside d) ∷ more_values_at values ∷ close ∷ []) (asked q.sign refl d, (term_reads d, (terms_reads d, (more_reads, (asked (q.word k.Close) refl d, tt))))))

  control_items : (x : Lexeme) (ts : List Lexeme) → kind_of x ≡ k.Caret → Reads n.list_items d (x ∷ ts) (values_at values (x ∷ ts))
  control_items x ts e =
      many_with (x ∷ ts) _ (controls d values (x ∷ ts) (value_at_front (x ∷ ts) (rw e refl) ∙ unsigned d control_at (x ∷ ts) (rw e refl) (caret_factor d x ts e)))
      (plain p.begins_with_control d (x ∷ ts) (at_kind n.list_items x k.Caret _ e refl) refl refl refl (ask (q.mark k.Caret) ∷ ask q.letter ∷ factors_at (inside d) ∷ terms_at (inside d) ∷ more_values_at values ∷ close ∷ []) (asked (q.mark k.Caret) refl d, (asked q.letter refl d, (factors_reads d, (terms_reads d, (more_reads, (asked (q.word k.Close) refl d, tt)))))))

  closed_items : (ts : List Lexeme) → choose n.list_items (front_kind ts) ≡ Some p.begins_with_closed → begins k.Open ts ≡ false → sign_found ts ≡ None → factor_at (inside d) ts ≡ made p.bare_factor (wrapped d ∷ []) ts → Reads n.list_items d ts (values_at values ts)
  closed_items ts c o s f =
      many_with ts _ (closed d values ts (value_at_front ts o ∙ unsigned d (wrapped d) ts s f))
      (plain p.begins_with_closed d ts c refl refl refl (closed_factor_at (inside d) ∷ factors_at (inside d) ∷ terms_at (inside d) ∷ more_values_at values ∷ close ∷ []) (closed_reads d, (factors_reads d, (terms_reads d, (more_reads, (asked (q.word k.Close) refl d, tt))))))

  -- ---- what begins with a name

  abbrev behind_name : List g.Reads
  behind_name = selectors_at (inside d) ∷ call_at (inside d) ∷ factors_at (inside d) ∷ terms_at (inside d) ∷ more_values_at values ∷ close ∷ []

  named_value : (us : List Lexeme) → choose n.after_name (front_kind us) ≡ Some p.named_value → Reads n.after_name d us (made p.named_value behind_name us)
  named_value us c = plain p.named_value d us c refl refl refl behind_name (selectors_reads d, (call_reads d, (factors_reads d, (terms_reads d, (more_reads, (asked (q.word k.Close) refl d, tt))))))

  -- nothing of a value stands there
  no_value : (z : Lexeme) (zs : List Lexeme) (w : Kind) → kind_of z ≡ w → selector_start (Some w) ≡ None → same w k.Open ≡ false → multiplier_of w ≡ None → same w k.Slash ≡ false → adder_of w ≡ None → same w k.Comma ≡ false → same w k.Close ≡ false → made p.named_value behind_name (z ∷ zs) ≡ Err (Syntax (length (z ∷ zs)))
  unfolding list_from
  no_value z zs w e s o m l a c f =
      let more : more_values_at values (z ∷ zs) ≡ Ok (of p.no_initializers [], z ∷ zs) = rw (e, c) refl in
      let end : close (z ∷ zs) ≡ Err (Syntax (length (z ∷ zs))) = rw (e, f) refl in
      rw (no_selectors d z zs w e s, no_call d z zs w e o, no_factors d z zs w e m l, no_terms d z zs w e a, more, end) refl

  other_name : (z : Lexeme) (zs : List Lexeme) (w : Kind) → kind_of z ≡ w → choose_by n.after_name w ≡ None → made p.named_value behind_name (z ∷ zs) ≡ Err (Syntax (length (z ∷ zs))) → Reads n.after_name d (z ∷ zs) (made p.named_value behind_name (z ∷ zs))
  other_name z zs w e c f = subst (λ (o : Outcome). Reads n.after_name d (z ∷ zs) o) (sym f) (none n.after_name d (z ∷ zs) (at_kind n.after_name z w _ e c))

  after_name_by_kind : (z : Lexeme) (zs : List Lexeme) (w : Kind) → kind_of z ≡ w → same w k.Colon ≡ false → Reads n.after_name d (z ∷ zs) (made p.named_value behind_name (z ∷ zs))
  after_name_by_kind z zs k.Colon e f = absurd cc
  after_name_by_kind z zs k.Slash e f = named_value (z ∷ zs) (at_kind n.after_name z k.Slash _ e refl)
  after_name_by_kind z zs k.Open e f = named_value (z ∷ zs) (at_kind n.after_name z k.Open _ e refl)
  after_name_by_kind z zs k.Close e f = named_value (z ∷ zs) (at_kind n.after_name z k.Close _ e refl)
  after_name_by_kind z zs k.OpenBracket e f = named_value (z ∷ zs) (at_kind n.after_name z k.OpenBracket _ e refl)
  after_name_by_kind z zs k.Dot e f = named_value (z ∷ zs) (at_kind n.after_name z k.Dot _ e refl)
  after_name_by_kind z zs k.Comma e f = named_value (z ∷ zs) (at_kind n.after_name z k.Comma _ e refl)
  after_name_by_kind z zs k.Caret e f = named_value (z ∷ zs) (at_kind n.after_name z k.Caret _ e refl)
  after_name_by_kind z zs k.Plus e f = named_value (z ∷ zs) (at_kind n.after_name z k.Plus _ e refl)
  after_name_by_kind z zs k.Minus e f = named_value (z ∷ zs) (at_kind n.after_name z k.Minus _ e refl)
  after_name_by_kind z zs k.Or e f = named_value (z ∷ zs) (at_kind n.after_name z k.Or _ e refl)
  after_name_by_kind z zs k.Xor e f = named_value (z ∷ zs) (at_kind n.after_name z k.Xor _ e refl)
  after_name_by_kind z zs k.Times e f = named_value (z ∷ zs) (at_kind n.after_name z k.Times _ e refl)
  after_name_by_kind z zs k.Div e f = named_value (z ∷ zs) (at_kind n.after_name z k.Div _ e refl)
  after_name_by_kind z zs k.Mod e f = named_value (z ∷ zs) (at_kind n.after_name z k.Mod _ e refl)
  after_name_by_kind z zs k.And e f = named_value (z ∷ zs) (at_kind n.after_name z k.And _ e refl)
  after_name_by_kind z zs k.Shl e f = named_value (z ∷ zs) (at_kind n.after_name z k.Shl _ e refl)
  after_name_by_kind z zs k.Shr e f = named_value (z ∷ zs) (at_kind n.after_name z k.Shr _ e refl)
  after_name_by_kind z zs w e f = other_name z zs w e refl (no_value z zs w e refl refl refl refl refl refl refl)

  at_end : made p.named_value behind_name [] ≡ Err (Syntax 0)
  unfolding selectors_by call_by factors_by terms_by list_from
  at_end = refl

  after_name_reads : (us : List Lexeme) → begins k.Colon us ≡ false → Reads n.after_name d us (made p.named_value behind_name us)
  after_name_reads [] f = subst (λ (o : Outcome). Reads n.after_name d [] o) (sym at_end) (none n.after_name d [] refl)
  after_name_reads (z ∷ zs) f = after_name_by_kind z zs (kind_of z) refl f

  name_with : (x : Lexeme) (us : List Lexeme) (y : Kind) → kind_of x ≡ y → is_name y ≡ true → choose_by n.list_items y ≡ Some p.begins_with_name → (after : g.Reads) → Reads n.after_name d us (after us) → Reads n.list_items d (x ∷ us) (made p.begins_with_name (name_at ∷ after ∷ []) (x ∷ us))
  name_with x us y e i c after m = known_step p.begins_with_name q.name (part n.after_name ∷ []) refl (joins p.begins_with_name) refl refl refl d x us (at_kind n.list_items x y _ e c) (ap is_name e ∙ i) (after ∷ []) (last_part n.after_name (Follow n.list_items) (joins p.begins_with_name).1 d us after m)

  named_items : (x : Lexeme) (us : List Lexeme) (y : Kind) → kind_of x ≡ y → is_name y ≡ true → choose_by n.list_items y ≡ Some p.begins_with_name → same y k.Open ≡ false → begins k.Colon us ≡ false → Reads n.list_items d (x ∷ us) (values_at values (x ∷ us))
  named_items x us y e i c o f =
      let first = value_at_front (x ∷ us) (ap (λ (z : Kind). same z k.Open) e ∙ o) ∙ unsigned d (named_factor_at (inside d)) (x ∷ us) (unsigned_name d x y e i us) (name_factor d x y e i us) in
      many_with (x ∷ us) _ (names d values (x ∷ us) us _ (there q.name x us (ap is_name e ∙ i)) first) (name_with x us y e i c (made p.named_value behind_name) (after_name_reads us f))

  values_by_kind : (x : Lexeme) (us : List Lexeme) (y : Kind) → kind_of x ≡ y → (are_names (Some y) && begins k.Colon us) ≡ false → Reads n.list_items d (x ∷ us) (values_at values (x ∷ us))
  values_by_kind x us k.Open e f = listed_reads x us e
  values_by_kind x us k.Caret e f = control_items x us e
  values_by_kind x us k.Plus e f = signed_items x us k.Plus e refl (rw e refl) _ (sign_there x us k.Plus _ e refl)
  values_by_kind x us k.Minus e f = signed_items x us k.Minus e refl (rw e refl) _ (sign_there x us k.Minus _ e refl)
  values_by_kind x us k.Letter e f = named_items x us k.Letter e refl refl refl f
  values_by_kind x us k.Absolute e f = named_items x us k.Absolute e refl refl refl f
  values_by_kind x us k.External e f = named_items x us k.External e refl refl refl f
  values_by_kind x us k.Forward e f = named_items x us k.Forward e refl refl refl f
  values_by_kind x us k.Interrupt e f = named_items x us k.Interrupt e refl refl refl f
  values_by_kind x us k.Name e f = named_items x us k.Name e refl refl refl f
  values_by_kind x us y e f = closed_items (x ∷ us) (at_kind n.list_items x y _ e refl) (rw e refl) (rw e refl) (closed_factor d x us y e refl)

  values_reads : (ts : List Lexeme) → begins_field ts ≡ false → Reads n.list_items d ts (values_at values ts)
  values_reads [] f = closed_items [] refl refl refl (closed_at_end d)
  values_reads (x ∷ us) f = values_by_kind x us (kind_of x) refl f

  -- ---- values of fields

  abbrev fields_from : ℕ → g.Reads
  fields_from i = chain_from (more_field_values values) i

  field_step : (i : ℕ) → ((us : List Lexeme) → length us ≤ i → Reads n.more_field_values d us (fields_from i us)) → (x : Lexeme) (ts : List Lexeme) → length ts ≤ i → same (kind_of x) k.Semicolon ≡ true
      → Reads n.more_field_values d (x ∷ ts) (made p.next_field_value (ask (q.word k.Semicolon) ∷ name_at ∷ ask (q.word k.Colon) ∷ values ∷ fields_from i ∷ []) (x ∷ ts))
  field_step i more x ts l e =
      let j = joins p.next_field_value in
      let F = Follow n.more_field_values in
      let behind = then_within grammar Follow (token q.name) (token (q.word k.Colon) ∷ part n.initializer ∷ part n.more_field_values ∷ []) F j.1.0 d ts (name_at ts) (through (ask (q.word k.Colon) ∷ values ∷ fields_from i ∷ [])) (asked q.name refl d ts)
      (λ us m. then_within grammar Follow (token (q.word k.Colon)) (part n.initializer ∷ part n.more_field_values ∷ []) F j.1.1.0 d us (ask (q.word k.Colon) us) (through (values ∷ fields_from i ∷ [])) (asked (q.word k.Colon) refl d us)
      (λ vs o. then_within grammar Follow (part n.initializer) (part n.more_field_values ∷ []) F j.1.1.1.0 d vs (values vs) (through (fields_from i ∷ [])) (initializers_read vs)
      (λ ws r. last_part n.more_field_values F j.1.1.1.1 d ws (fields_from i) (more ws (omega arith))))) in
      known_step p.next_field_value (q.word k.Semicolon) (token q.name ∷ token (q.word k.Colon) ∷ part n.initializer ∷ part n.more_field_values ∷ []) refl j refl refl refl d x ts (at_kind n.more_field_values x k.Semicolon _ (same_kind x k.Semicolon e) refl) e (name_at ∷ ask (q.word k.Colon) ∷ values ∷ fields_from i ∷ []) behind

  fields_end : (ts : List Lexeme) → begins k.Semicolon ts ≡ false → Reads n.more_field_values d ts (Ok (of p.no_field_values [], ts))
  fields_end ts e = empty p.no_field_values d ts (absent n.more_field_values k.Semicolon (Some p.no_field_values) refl no_semicolon ts e) refl refl refl refl

  fields_with : (i : ℕ) → ((us : List Lexeme) → length us ≤ i → Reads n.more_field_values d us (fields_from i us)) → (ts : List Lexeme) → length ts ≤ suc i → (c : Bool) → begins k.Semicolon ts ≡ c → Reads n.more_field_values d ts (fields_from (suc i) ts)
  unfolding chain_from
  fields_with i more ts l false e = rw e (fields_end ts e)
  fields_with i more [] l true e = absurd cc
  fields_with i more (x ∷ ts) l true e =
      let is = next_field values i x ts e in
      subst (λ (o : Outcome). Reads n.more_field_values d (x ∷ ts) o) (sym is) (field_step i more x ts (let m : length (x ∷ ts) ≤ suc i = l in omega arith) e)

  more_fields_reads : (i : ℕ) (ts : List Lexeme) → length ts ≤ i → Reads n.more_field_values d ts (fields_from i ts)
  unfolding chain_from
  more_fields_reads zero [] l = fields_end [] refl
  more_fields_reads zero (x ∷ ts) l = absurd (omega arith)
  more_fields_reads (suc i) ts l = fields_with i (λ us m. more_fields_reads i us m) ts l (begins k.Semicolon ts) refl

  field_items : (x : Lexeme) (us : List Lexeme) (y : Kind) → kind_of x ≡ y → is_name y ≡ true → choose_by n.list_items y ≡ Some p.begins_with_name → begins k.Colon us ≡ true → Reads n.list_items d (x ∷ us) (field_values_at values (x ∷ us))
  field_items x us y e i c f =
      let rs = ask (q.word k.Colon) ∷ values ∷ chain_at (more_field_values values) ∷ close ∷ [] in
      let behind = plain p.field_values d us (present n.after_name k.Colon p.field_values refl us f) refl refl refl rs (asked (q.word k.Colon) refl d, (initializers_read, ((λ vs. more_fields_reads (length vs) vs (omega arith)), (asked (q.word k.Close) refl d, tt)))) in
      subst (λ (o : Outcome). Reads n.list_items d (x ∷ us) o) (sym (fields values (x ∷ us) us _ (there q.name x us (ap is_name e ∙ i)))) (name_with x us y e i c (made p.field_values rs) behind)

  fields_by_kind : (x : Lexeme) (us : List Lexeme) (y : Kind) → kind_of x ≡ y → (are_names (Some y) && begins k.Colon us) ≡ true → Reads n.list_items d (x ∷ us) (field_values_at values (x ∷ us))
  fields_by_kind x us k.Letter e f = field_items x us k.Letter e refl refl f
  fields_by_kind x us k.Absolute e f = field_items x us k.Absolute e refl refl f
  fields_by_kind x us k.External e f = field_items x us k.External e refl refl f
  fields_by_kind x us k.Forward e f = field_items x us k.Forward e refl refl f
  fields_by_kind x us k.Interrupt e f = field_items x us k.Interrupt e refl refl f
  fields_by_kind x us k.Name e f = field_items x us k.Name e refl refl f
  fields_by_kind x us y e f = absurd cc

  fields_reads : (ts : List Lexeme) → begins_field ts ≡ true → Reads n.list_items d ts (field_values_at values ts)
  fields_reads [] f = absurd cc
  fields_reads (x ∷ us) f = fields_by_kind x us (kind_of x) refl f

  items_with : (ts : List Lexeme) (c : Bool) → begins_field ts ≡ c → Reads n.list_items d ts (items_by c values ts)
  unfolding items_by
  items_with ts true e = fields_reads ts e
  items_with ts false e = values_reads ts e

  -- each part that is held
  pub parts_read : (m : Part) → Held m → (ts : List Lexeme) → Reads m d ts (value_parts d b m ts)
  parts_read n.list_items i ts = items_with ts (begins_field ts) refl
  parts_read m i ts = absurd i

-- the readers within each depth
pub valued_reads : (d : ℕ) → AreRead Held d (valued_inside d)
unfolding valued_inside
valued_reads zero = tt
valued_reads (suc d) = record { depth = refl; meets = parts_read d (valued_inside d) (valued_reads d) }

pub initializer_reads : (d : ℕ) (ts : List Lexeme) → Reads n.initializer d ts (initializer_at d (valued_inside d) ts)
initializer_reads d ts = initializers_read d (valued_inside d) (valued_reads d) ts
