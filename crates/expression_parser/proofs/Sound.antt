-- The readers of expressions meet the grammar.
use Rattle.std.proofs.Common.{◌≡◌, ℕ, zero, suc, ◌≤◌, Bool, true, false, if◌then◌else◌, List, [], ◌∷◌, length, Option, Some, None, Result, Ok, Err, refl, sym, ap, subst, ◌∙◌, arith}
use Rattle.pascal_grammar.specs.declared.kind.Kind.{Kind}
use Rattle.pascal_grammar.specs.declared.kind.Kind.TheVariants as k
use Rattle.pascal_grammar.specs.declared.lexeme.Position.{Position}
use Rattle.pascal_grammar.specs.declared.lexeme.Lexeme.{Lexeme}
use Rattle.pascal_grammar.specs.declared.operator.Relator.{Relator}
use Rattle.pascal_grammar.specs.declared.operator.Adder.{Adder}
use Rattle.pascal_grammar.specs.declared.operator.Multiplier.{Multiplier}
use Rattle.pascal_grammar.specs.Operators.{relator_of, adder_of, multiplier_of, sign_of}
use Rattle.pascal_grammar.specs.Asked.{same, is_name, is_relator, is_adder, is_multiplier, is_sign}
use Rattle.pascal_grammar.specs.Asked as q
use Rattle.pascal_grammar.specs.Lexemes.{kind_of, front_kind}
use Rattle.pascal_grammar.specs.Lexemes as v
use Rattle.pascal_grammar.specs.Parts.{Part}
use Rattle.pascal_grammar.specs.Parts as n
use Rattle.pascal_grammar.specs.Productions.{Production}
use Rattle.pascal_grammar.specs.Productions as p
use Rattle.pascal_grammar.specs.Choices.{choose, choose_at_end, choose_by}
use Rattle.pascal_grammar.proofs.Somes.{joins}
use Rattle.pascal_grammar.proofs.Reading.{Reads, AreRead, asked, plain, begun, empty, none, left, opens, list_step}
use Rattle.ll1_grammar.specs.Grammar.{Symbol, token, part, leaf}
use Rattle.ll1_grammar.specs.Readers.{LeftOut, made, opened, ◌>>=◌}
use Rattle.syntax_tree.specs.declared.expression.PlacedSign.{PlacedSign}
use Rattle.syntax_tree.specs.Expressions.{of, word}
use Rattle.expression_parser.specs.Gives.{Inside, ask, name_at}
use Rattle.expression_parser.specs.Gives as g
use Rattle.expression_parser.specs.Reading.{begins, tail_of, placed, placed_sign, relator_at, adder_at, multiplier_at, sign_found, optional_sign_at, sign_at, field_at, index_at, dereference_at, selectors_by, selectors_at, more_indexes_by, more_indexes_at, named_at, group_at, negation_at, set_at, arguments_at, argument_end_by, argument_end_at, call_by, call_at, named_factor_at, control_at, plain_by, closed_by, closed_factor_at, wrapped, factor_by, factor_at, factors_by, factors_at, term_at, terms_by, terms_at, simple_by, simple_at, relation_by, relation_at, expression_at, element_end_by, element_at, argument_width_by, argument_at, list_from, more_elements_at, elements_by, elements_at, more_arguments_at, expression_parts, inside}
use Rattle.expression_parser.specs.declared.lookahead.FactorStart.TheVariants as factor
use Rattle.expression_parser.specs.Starting.{selector_start, factor_start, closed_start, plain_start}
use Rattle.expression_parser.proofs.Choosing.{at_kind, at_all, accepted_word, sign_some, sign_none, no_comma, no_open, more_factors_by, no_factors_by, no_factors, more_terms_by, no_terms_by, no_terms, signed_by, unsigned_by, signed, unsigned, related_by, unrelated_by, related, unrelated, no_dots, dots, no_colon, colon, closing}
use Rattle.expression_parser.proofs.Shapes.{begins_is, same_kind, word_asked, relator_asked, adder_asked, multiplier_asked, sign_asked, first_read, second_read, pair_read, operator_read}

-- what the readers of fewer constructs read
abbrev pub Held : Part → Type 0
Held n.expression = Unit {0}
Held n.term = Unit {0}
Held n.terms = Unit {0}
Held n.factor = Unit {0}
Held n.factors = Unit {0}
Held n.selectors = Unit {0}
Held n.more_indexes = Unit {0}
Held n.elements = Unit {0}
Held n.argument = Unit {0}
Held n.more_arguments = Unit {0}
Held m = ⊥

-- ---- signs

pub sign_reads : (d : ℕ) (ts : List Lexeme) → Reads n.sign d ts (sign_at ts)
unfolding optional_sign_at
sign_reads d ts = by (sign_found ts) refl
  where
    by : (o : Option PlacedSign) → sign_found ts ≡ o → Reads n.sign d ts (optional_sign_at o ts)
    by None e = empty p.no_sign d ts (sign_none ts e) refl refl refl refl
    by (Some s) e =
        let r : ask q.sign ts ≡ Ok (leaf (v.sign s.sign s.position), tail_of ts) = sign_asked ts s e in
        let m = plain p.sign d ts (sign_some ts s e) refl refl refl (ask q.sign ∷ []) (asked q.sign refl d, tt) in
        rw r at m

module _ (d : ℕ) (b : Inside) (h : AreRead Held d b) where
  -- ---- selectors

  field_reads : (x : Lexeme) (ts : List Lexeme) → kind_of x ≡ k.Dot → Reads n.selector d (x ∷ ts) (opened p.field (λ e l. ask (q.mark k.Dot) ∷ name_at ∷ l n.selectors ∷ []) b (x ∷ ts))
  field_reads x ts e = opens Held p.field x ts (at_kind n.selector x k.Dot _ e refl) refl refl refl (q.mark k.Dot) (token q.name ∷ part n.selectors ∷ []) refl (joins p.field) (accepted_word x k.Dot k.Dot e refl)
      (λ e l. name_at ∷ l n.selectors ∷ []) d b h (λ e l m. (asked q.name refl e, (m.meets n.selectors tt, tt)))

  index_reads : (x : Lexeme) (ts : List Lexeme) → kind_of x ≡ k.OpenBracket → Reads n.selector d (x ∷ ts) (opened p.index (λ e l. ask (q.mark k.OpenBracket) ∷ l n.expression ∷ l n.more_indexes ∷ []) b (x ∷ ts))
  index_reads x ts e = opens Held p.index x ts (at_kind n.selector x k.OpenBracket _ e refl) refl refl refl (q.mark k.OpenBracket) (part n.expression ∷ part n.more_indexes ∷ []) refl (joins p.index) (accepted_word x k.OpenBracket k.OpenBracket e refl)
      (λ e l. l n.expression ∷ l n.more_indexes ∷ []) d b h (λ e l m. (m.meets n.expression tt, (m.meets n.more_indexes tt, tt)))

  dereference_reads : (x : Lexeme) (ts : List Lexeme) → kind_of x ≡ k.Caret → Reads n.selector d (x ∷ ts) (opened p.dereference (λ e l. ask (q.mark k.Caret) ∷ l n.selectors ∷ []) b (x ∷ ts))
  dereference_reads x ts e = opens Held p.dereference x ts (at_kind n.selector x k.Caret _ e refl) refl refl refl (q.mark k.Caret) (part n.selectors ∷ []) refl (joins p.dereference) (accepted_word x k.Caret k.Caret e refl)
      (λ e l. l n.selectors ∷ []) d b h (λ e l m. (m.meets n.selectors tt, tt))

  selectors_by_kind : (x : Lexeme) (ts : List Lexeme) (y : Kind) → kind_of x ≡ y → Reads n.selectors d (x ∷ ts) (selectors_by (selector_start (Some y)) b (x ∷ ts))
  unfolding selectors_by field_at index_at dereference_at
  selectors_by_kind x ts k.Dot e = begun p.more_selectors d (x ∷ ts) (at_kind n.selectors x k.Dot _ e refl) refl refl refl (part n.selector) [] refl (joins p.more_selectors) (opened p.field (λ e l. ask (q.mark k.Dot) ∷ name_at ∷ l n.selectors ∷ []) b) [] (field_reads x ts e) tt
  selectors_by_kind x ts k.OpenBracket e = begun p.more_selectors d (x ∷ ts) (at_kind n.selectors x k.OpenBracket _ e refl) refl refl refl (part n.selector) [] refl (joins p.more_selectors) (opened p.index (λ e l. ask (q.mark k.OpenBracket) ∷ l n.expression ∷ l n.more_indexes ∷ []) b) [] (index_reads x ts e) tt
  selectors_by_kind x ts k.Caret e = begun p.more_selectors d (x ∷ ts) (at_kind n.selectors x k.Caret _ e refl) refl refl refl (part n.selector) [] refl (joins p.more_selectors) (opened p.dereference (λ e l. ask (q.mark k.Caret) ∷ l n.selectors ∷ []) b) [] (dereference_reads x ts e) tt
  selectors_by_kind x ts y e = empty p.no_selectors d (x ∷ ts) (at_kind n.selectors x y _ e refl) refl refl refl refl

  pub selectors_reads : (ts : List Lexeme) → Reads n.selectors d ts (selectors_at b ts)
  unfolding selectors_by field_at index_at dereference_at
  selectors_reads [] = empty p.no_selectors d [] refl refl refl refl refl
  selectors_reads (x ∷ ts) = selectors_by_kind x ts (kind_of x) refl

  pub more_indexes_reads : (ts : List Lexeme) → Reads n.more_indexes d ts (more_indexes_at b ts)
  unfolding more_indexes_by
  more_indexes_reads ts = by (begins k.Comma ts) refl
    where
      by : (c : Bool) → begins k.Comma ts ≡ c → Reads n.more_indexes d ts (more_indexes_by c b ts)
      by false e = plain p.last_index d ts (no_comma ts e) refl refl refl (ask (q.word k.CloseBracket) ∷ selectors_at b ∷ []) (asked (q.word k.CloseBracket) refl d, (selectors_reads, tt))
      by true e =
          let i = begins_is k.Comma ts e in
          let here = opens Held p.next_index i.0 i.1 (at_kind n.more_indexes i.0 k.Comma _ i.3 refl) refl refl refl (q.mark k.Comma) (part n.expression ∷ part n.more_indexes ∷ []) refl (joins p.next_index) (accepted_word i.0 k.Comma k.Comma i.3 refl)
          (λ e l. l n.expression ∷ l n.more_indexes ∷ []) d b h (λ e l m. (m.meets n.expression tt, (m.meets n.more_indexes tt, tt))) in
          subst (λ (us : List Lexeme). Reads n.more_indexes d us (opened p.next_index (λ e l. ask (q.mark k.Comma) ∷ l n.expression ∷ l n.more_indexes ∷ []) b us)) (sym i.2) here

  -- ---- factors

  control_reads : (x : Lexeme) (ts : List Lexeme) → kind_of x ≡ k.Caret → Reads n.bare_factor d (x ∷ ts) (control_at (x ∷ ts))
  unfolding control_at
  control_reads x ts e = plain p.control d (x ∷ ts) (at_kind n.bare_factor x k.Caret _ e refl) refl refl refl (ask (q.mark k.Caret) ∷ ask q.letter ∷ []) (asked (q.mark k.Caret) refl d, (asked q.letter refl d, tt))

  group_reads : (x : Lexeme) (ts : List Lexeme) → kind_of x ≡ k.Open → Reads n.factor d (x ∷ ts) (group_at b (x ∷ ts))
  unfolding group_at
  group_reads x ts e = opens Held p.group_factor x ts (at_kind n.factor x k.Open _ e refl) refl refl refl (q.mark k.Open) (part n.expression ∷ token (q.word k.Close) ∷ []) refl (joins p.group_factor) (accepted_word x k.Open k.Open e refl)
      (λ e l. l n.expression ∷ ask (q.word k.Close) ∷ []) d b h (λ e l m. (m.meets n.expression tt, (asked (q.word k.Close) refl e, tt)))

  negation_reads : (x : Lexeme) (ts : List Lexeme) → kind_of x ≡ k.Not → Reads n.closed_factor d (x ∷ ts) (negation_at b (x ∷ ts))
  unfolding negation_at
  negation_reads x ts e = opens Held p.negation x ts (at_kind n.closed_factor x k.Not _ e refl) refl refl refl (q.mark k.Not) (part n.factor ∷ []) refl (joins p.negation) (accepted_word x k.Not k.Not e refl)
      (λ e l. l n.factor ∷ []) d b h (λ e l m. (m.meets n.factor tt, tt))

  set_reads : (x : Lexeme) (ts : List Lexeme) → kind_of x ≡ k.OpenBracket → Reads n.closed_factor d (x ∷ ts) (set_at b (x ∷ ts))
  unfolding set_at
  set_reads x ts e = opens Held p.set_constructor x ts (at_kind n.closed_factor x k.OpenBracket _ e refl) refl refl refl (q.mark k.OpenBracket) (part n.elements ∷ token (q.word k.CloseBracket) ∷ []) refl (joins p.set_constructor) (accepted_word x k.OpenBracket k.OpenBracket e refl)
      (λ e l. l n.elements ∷ ask (q.word k.CloseBracket) ∷ []) d b h (λ e l m. (m.meets n.elements tt, (asked (q.word k.CloseBracket) refl e, tt)))

  closed_by_kind : (x : Lexeme) (ts : List Lexeme) (y : Kind) → kind_of x ≡ y → Reads n.closed_factor d (x ∷ ts) (closed_by (closed_start (Some y)) (plain_start (Some y)) b (x ∷ ts))
  unfolding closed_by plain_by
  closed_by_kind x ts k.Number e = plain p.number d (x ∷ ts) (at_kind n.closed_factor x k.Number _ e refl) refl refl refl (ask q.number ∷ []) (asked q.number refl d, tt)
  closed_by_kind x ts k.Text e = plain p.text d (x ∷ ts) (at_kind n.closed_factor x k.Text _ e refl) refl refl refl (ask q.text ∷ []) (asked q.text refl d, tt)
  closed_by_kind x ts k.Nil e = plain p.nil d (x ∷ ts) (at_kind n.closed_factor x k.Nil _ e refl) refl refl refl (ask (q.mark k.Nil) ∷ []) (asked (q.mark k.Nil) refl d, tt)
  closed_by_kind x ts k.Not e = negation_reads x ts e
  closed_by_kind x ts k.OpenBracket e = set_reads x ts e
  closed_by_kind x ts k.Real e = left p.real d x ts (at_kind n.closed_factor x k.Real _ e refl) refl refl (q.word k.Real) refl (accepted_word x k.Real k.Real e refl)
  closed_by_kind x ts k.Address e = left p.address d x ts (at_kind n.closed_factor x k.Address _ e refl) refl refl (q.word k.Address) refl (accepted_word x k.Address k.Address e refl)
  closed_by_kind x ts y e = none n.closed_factor d (x ∷ ts) (at_kind n.closed_factor x y _ e refl)

  pub closed_factor_reads : (ts : List Lexeme) → Reads n.closed_factor d ts (closed_factor_at b ts)
  unfolding closed_by plain_by
  closed_factor_reads [] = none n.closed_factor d [] refl
  closed_factor_reads (x ∷ ts) = closed_by_kind x ts (kind_of x) refl

  argument_end_by_kind : (x : Lexeme) (ts : List Lexeme) (y : Kind) → kind_of x ≡ y → Reads n.argument_end d (x ∷ ts) (argument_end_by (selector_start (Some y)) (x ∷ ts))
  unfolding argument_end_by
  argument_end_by_kind x ts k.Caret e = left p.caret_cast d x ts (at_kind n.argument_end x k.Caret _ e refl) refl refl (q.word k.Caret) refl (accepted_word x k.Caret k.Caret e refl)
  argument_end_by_kind x ts k.Dot e = left p.dot_cast d x ts (at_kind n.argument_end x k.Dot _ e refl) refl refl (q.word k.Dot) refl (accepted_word x k.Dot k.Dot e refl)
  argument_end_by_kind x ts k.OpenBracket e = left p.bracket_cast d x ts (at_kind n.argument_end x k.OpenBracket _ e refl) refl refl (q.word k.OpenBracket) refl (accepted_word x k.OpenBracket k.OpenBracket e refl)
  argument_end_by_kind x ts y e = empty p.argument_end d (x ∷ ts) (at_kind n.argument_end x y _ e refl) refl refl refl refl

  pub argument_end_reads : (ts : List Lexeme) → Reads n.argument_end d ts (argument_end_at ts)
  unfolding argument_end_by
  argument_end_reads [] = empty p.argument_end d [] refl refl refl refl refl
  argument_end_reads (x ∷ ts) = argument_end_by_kind x ts (kind_of x) refl

  pub arguments_reads : (x : Lexeme) (ts : List Lexeme) → kind_of x ≡ k.Open → Reads n.arguments d (x ∷ ts) (arguments_at b (x ∷ ts))
  unfolding arguments_at
  arguments_reads x ts e = opens Held p.arguments x ts (at_kind n.arguments x k.Open _ e refl) refl refl refl (q.word k.Open) (part n.argument ∷ part n.more_arguments ∷ token (q.word k.Close) ∷ []) refl (joins p.arguments) (accepted_word x k.Open k.Open e refl)
      (λ e l. l n.argument ∷ l n.more_arguments ∷ ask (q.word k.Close) ∷ []) d b h (λ e l m. (m.meets n.argument tt, (m.meets n.more_arguments tt, (asked (q.word k.Close) refl e, tt))))

  pub call_reads : (ts : List Lexeme) → Reads n.call d ts (call_at b ts)
  unfolding call_by
  call_reads ts = by (begins k.Open ts) refl
    where
      by : (c : Bool) → begins k.Open ts ≡ c → Reads n.call d ts (call_by c b ts)
      by false e = empty p.no_call d ts (no_open ts e) refl refl refl refl
      by true e =
          let i = begins_is k.Open ts e in
          let here = begun p.call d (i.0 ∷ i.1) (at_kind n.call i.0 k.Open _ i.3 refl) refl refl refl (part n.arguments) (part n.argument_end ∷ []) refl (joins p.call) (arguments_at b) (argument_end_at ∷ []) (arguments_reads i.0 i.1 i.3) (argument_end_reads, tt) in
          subst (λ (us : List Lexeme). Reads n.call d us (made p.call (arguments_at b ∷ argument_end_at ∷ []) us)) (sym i.2) here

  named_factor_reads : (ts : List Lexeme) → choose n.bare_factor (front_kind ts) ≡ Some p.named_factor → Reads n.bare_factor d ts (named_factor_at b ts)
  unfolding named_factor_at named_at
  named_factor_reads ts c = subst (λ (r : _). Reads n.bare_factor d ts r) (sym (pair_read p.named_factor name_at (selectors_at b) (call_at b) ts))
      (plain p.named_factor d ts c refl refl refl (name_at ∷ selectors_at b ∷ call_at b ∷ []) (asked q.name refl d, (selectors_reads, (call_reads, tt))))

  other_factor : (x : Lexeme) (ts : List Lexeme) (y : Kind) (t : Bool) → kind_of x ≡ y → choose_by n.factor y ≡ Some p.bare_factor → choose_by n.bare_factor y ≡ (if t then Some p.named_factor else Some p.closed_factor)
      → Reads n.factor d (x ∷ ts) (factor_by (if t then factor.Named else factor.Closed) b (x ∷ ts))
  unfolding factor_by
  other_factor x ts y true e c1 c = begun p.bare_factor d (x ∷ ts) (at_kind n.factor x y _ e c1) refl refl refl (part n.bare_factor) [] refl (joins p.bare_factor) (named_factor_at b) [] (named_factor_reads (x ∷ ts) (at_kind n.bare_factor x y _ e c)) tt
  other_factor x ts y false e c1 c = begun p.bare_factor d (x ∷ ts) (at_kind n.factor x y _ e c1) refl refl refl (part n.bare_factor) [] refl (joins p.bare_factor) (made p.closed_factor (closed_factor_at b ∷ [])) []
      (plain p.closed_factor d (x ∷ ts) (at_kind n.bare_factor x y _ e c) refl refl refl (closed_factor_at b ∷ []) (closed_factor_reads, tt)) tt

  factor_by_kind : (x : Lexeme) (ts : List Lexeme) (y : Kind) → kind_of x ≡ y → Reads n.factor d (x ∷ ts) (factor_by (factor_start (Some y)) b (x ∷ ts))
  unfolding factor_by
  factor_by_kind x ts k.Open e = group_reads x ts e
  factor_by_kind x ts k.Caret e = begun p.bare_factor d (x ∷ ts) (at_kind n.factor x k.Caret _ e refl) refl refl refl (part n.bare_factor) [] refl (joins p.bare_factor) control_at [] (control_reads x ts e) tt
  factor_by_kind x ts y e = other_factor x ts y (is_name y) e refl refl

  pub factor_reads : (ts : List Lexeme) → Reads n.factor d ts (factor_at b ts)
  unfolding factor_by
  factor_reads [] = begun p.bare_factor d [] refl refl refl refl (part n.bare_factor) [] refl (joins p.bare_factor) (made p.closed_factor (closed_factor_at b ∷ [])) [] (plain p.closed_factor d [] refl refl refl refl (closed_factor_at b ∷ []) (closed_factor_reads, tt)) tt
  factor_reads (x ∷ ts) = factor_by_kind x ts (kind_of x) refl

  -- ---- terms

  multiplied_reads : (x : Lexeme) (ts : List Lexeme) → is_multiplier (kind_of x) ≡ true → Reads n.multiplied d (x ∷ ts) (opened p.multiplied (λ e l. ask q.multiplier ∷ sign_at ∷ l n.factor ∷ l n.factors ∷ []) b (x ∷ ts))
  multiplied_reads x ts e = opens Held p.multiplied x ts refl refl refl refl q.multiplier (part n.sign ∷ part n.factor ∷ part n.factors ∷ []) refl (joins p.multiplied) e
      (λ e l. sign_at ∷ l n.factor ∷ l n.factors ∷ []) d b h (λ e l m. (sign_reads e, (m.meets n.factor tt, (m.meets n.factors tt, tt))))

  more_factors_reads : (ts : List Lexeme) (o : Multiplier × Position) → multiplier_at ts ≡ Some o → Reads n.factors d ts (made p.more_factors (opened p.multiplied (λ e l. ask q.multiplier ∷ sign_at ∷ l n.factor ∷ l n.factors ∷ []) b ∷ []) ts)
  more_factors_reads [] o e = absurd cc
  more_factors_reads (x ∷ ts) o e =
      let a = more_factors_by x ts (kind_of x) o refl e in
      begun p.more_factors d (x ∷ ts) a.0 refl refl refl (part n.multiplied) [] refl (joins p.more_factors) (opened p.multiplied (λ e l. ask q.multiplier ∷ sign_at ∷ l n.factor ∷ l n.factors ∷ []) b) [] (multiplied_reads x ts a.1) tt

  factors_with : (ts : List Lexeme) (o : Option (Multiplier × Position)) (c : Bool) → multiplier_at ts ≡ o → begins k.Slash ts ≡ c → Reads n.factors d ts (factors_by o c b ts)
  unfolding factors_by
  factors_with ts (Some o) c e i = subst (λ (r : _). Reads n.factors d ts r) (sym (operator_read p.more_factors p.multiplied (ask q.multiplier) (leaf (v.multiplier o.0 o.1)) n.factor n.factors b ts (multiplier_asked ts o e))) (more_factors_reads ts o e)
  factors_with ts None false e i = empty p.no_factors d ts (no_factors ts e i) refl refl refl refl
  factors_with ts None true e i =
      let a = begins_is k.Slash ts i in
      let here = left p.divided d a.0 a.1 (at_kind n.factors a.0 k.Slash _ a.3 refl) refl refl (q.word k.Slash) refl (accepted_word a.0 k.Slash k.Slash a.3 refl) in
      subst (λ (us : List Lexeme). Reads n.factors d us (Err (LeftOut p.divided (length us)))) (sym a.2) here

  pub factors_reads : (ts : List Lexeme) → Reads n.factors d ts (factors_at b ts)
  factors_reads ts = factors_with ts (multiplier_at ts) (begins k.Slash ts) refl refl

  pub term_reads : (ts : List Lexeme) → Reads n.term d ts (term_at b ts)
  unfolding term_at
  term_reads ts = plain p.term d ts (at_all n.term (Some p.term) refl (λ x. refl) (front_kind ts)) refl refl refl (factor_at b ∷ factors_at b ∷ []) (factor_reads, (factors_reads, tt))

  -- ---- simple expressions

  added_reads : (x : Lexeme) (ts : List Lexeme) → is_adder (kind_of x) ≡ true → Reads n.added d (x ∷ ts) (opened p.added (λ e l. ask q.adder ∷ sign_at ∷ l n.term ∷ l n.terms ∷ []) b (x ∷ ts))
  added_reads x ts e = opens Held p.added x ts refl refl refl refl q.adder (part n.sign ∷ part n.term ∷ part n.terms ∷ []) refl (joins p.added) e
      (λ e l. sign_at ∷ l n.term ∷ l n.terms ∷ []) d b h (λ e l m. (sign_reads e, (m.meets n.term tt, (m.meets n.terms tt, tt))))

  more_terms_reads : (ts : List Lexeme) (o : Adder × Position) → adder_at ts ≡ Some o → Reads n.terms d ts (made p.more_terms (opened p.added (λ e l. ask q.adder ∷ sign_at ∷ l n.term ∷ l n.terms ∷ []) b ∷ []) ts)
  more_terms_reads [] o e = absurd cc
  more_terms_reads (x ∷ ts) o e =
      let a = more_terms_by x ts (kind_of x) o refl e in
      begun p.more_terms d (x ∷ ts) a.0 refl refl refl (part n.added) [] refl (joins p.more_terms) (opened p.added (λ e l. ask q.adder ∷ sign_at ∷ l n.term ∷ l n.terms ∷ []) b) [] (added_reads x ts a.1) tt

  terms_with : (ts : List Lexeme) (o : Option (Adder × Position)) → adder_at ts ≡ o → Reads n.terms d ts (terms_by o b ts)
  unfolding terms_by
  terms_with ts (Some o) e = subst (λ (r : _). Reads n.terms d ts r) (sym (operator_read p.more_terms p.added (ask q.adder) (leaf (v.adder o.0 o.1)) n.term n.terms b ts (adder_asked ts o e))) (more_terms_reads ts o e)
  terms_with ts None e = empty p.no_terms d ts (no_terms ts e) refl refl refl refl

  pub terms_reads : (ts : List Lexeme) → Reads n.terms d ts (terms_at b ts)
  terms_reads ts = terms_with ts (adder_at ts) refl

  simple_with : (ts : List Lexeme) (o : Option PlacedSign) → sign_found ts ≡ o → Reads n.simple d ts (simple_by o b ts)
  unfolding simple_by
  simple_with ts (Some s) e = subst (λ (r : _). Reads n.simple d ts r) (sym (second_read p.signed (ask q.sign) (term_at b) (terms_at b) (leaf (v.sign s.sign s.position)) ts (tail_of ts) (sign_asked ts s e)))
      (plain p.signed d ts (signed ts s e) refl refl refl (ask q.sign ∷ term_at b ∷ terms_at b ∷ []) (asked q.sign refl d, (term_reads, (terms_reads, tt))))
  simple_with ts None e = plain p.unsigned d ts (unsigned ts e) refl refl refl (term_at b ∷ terms_at b ∷ []) (term_reads, (terms_reads, tt))

  pub simple_reads : (ts : List Lexeme) → Reads n.simple d ts (simple_at b ts)
  simple_reads ts = simple_with ts (sign_found ts) refl

  -- ---- expressions

  relation_with : (ts : List Lexeme) (o : Option (Relator × Position)) → relator_at ts ≡ o → Reads n.relation d ts (relation_by o b ts)
  unfolding relation_by
  relation_with ts (Some o) e = subst (λ (r : _). Reads n.relation d ts r) (sym (first_read p.relation (ask q.relator) (simple_at b) (leaf (v.relator o.0 o.1)) ts (tail_of ts) (relator_asked ts o e)))
      (plain p.relation d ts (related ts o e) refl refl refl (ask q.relator ∷ simple_at b ∷ []) (asked q.relator refl d, (simple_reads, tt)))
  relation_with ts None e = empty p.no_relation d ts (unrelated ts e) refl refl refl refl

  pub expression_reads : (ts : List Lexeme) → Reads n.expression d ts (expression_at b ts)
  unfolding expression_at
  expression_reads ts = plain p.expression d ts (at_all n.expression (Some p.expression) refl (λ x. refl) (front_kind ts)) refl refl refl (simple_at b ∷ (λ us. relation_by (relator_at us) b us) ∷ []) (simple_reads, ((λ us. relation_with us (relator_at us) refl), tt))

  -- ---- elements and arguments

  element_end_with : (ts : List Lexeme) (c : Bool) → begins k.Dots ts ≡ c → Reads n.element_end d ts (element_end_by c b ts)
  unfolding element_end_by
  element_end_with ts true e = plain p.element_range d ts (dots ts e) refl refl refl (ask (q.word k.Dots) ∷ expression_at b ∷ []) (asked (q.word k.Dots) refl d, (expression_reads, tt))
  element_end_with ts false e = empty p.single_element d ts (no_dots ts e) refl refl refl refl

  pub element_reads : (ts : List Lexeme) → Reads n.element d ts (element_at b ts)
  unfolding element_at
  element_reads ts = plain p.element d ts (at_all n.element (Some p.element) refl (λ x. refl) (front_kind ts)) refl refl refl (expression_at b ∷ (λ us. element_end_by (begins k.Dots us) b us) ∷ []) (expression_reads, ((λ us. element_end_with us (begins k.Dots us) refl), tt))

  argument_width_with : (ts : List Lexeme) (c : Bool) → begins k.Colon ts ≡ c → Reads n.argument_width d ts (argument_width_by c b ts)
  unfolding argument_width_by
  argument_width_with ts true e = plain p.width d ts (colon ts e) refl refl refl (ask (q.word k.Colon) ∷ expression_at b ∷ []) (asked (q.word k.Colon) refl d, (expression_reads, tt))
  argument_width_with ts false e = empty p.no_width d ts (no_colon ts e) refl refl refl refl

  pub argument_reads : (ts : List Lexeme) → Reads n.argument d ts (argument_at b ts)
  unfolding argument_at
  argument_reads ts = plain p.argument d ts (at_all n.argument (Some p.argument) refl (λ x. refl) (front_kind ts)) refl refl refl (expression_at b ∷ (λ us. argument_width_by (begins k.Colon us) b us) ∷ []) (expression_reads, ((λ us. argument_width_with us (begins k.Colon us) refl), tt))

  -- what ends a list, and what goes on with it
  elements_end : (ts : List Lexeme) → begins k.Comma ts ≡ false → Reads n.more_elements d ts (Ok (of p.no_more_elements [], ts))
  elements_end [] e = empty p.no_more_elements d [] refl refl refl refl refl
  elements_end (x ∷ ts) e = empty p.no_more_elements d (x ∷ ts) (at_kind n.more_elements x _ _ refl (by (kind_of x) e)) refl refl refl refl
    where
      by : (y : Kind) → same y k.Comma ≡ false → choose_by n.more_elements y ≡ Some p.no_more_elements
      by k.Comma e = absurd cc
      by y e = refl

  arguments_end : (ts : List Lexeme) → begins k.Comma ts ≡ false → Reads n.more_arguments d ts (Ok (of p.no_more_arguments [], ts))
  arguments_end [] e = empty p.no_more_arguments d [] refl refl refl refl refl
  arguments_end (x ∷ ts) e = empty p.no_more_arguments d (x ∷ ts) (at_kind n.more_arguments x _ _ refl (by (kind_of x) e)) refl refl refl refl
    where
      by : (y : Kind) → same y k.Comma ≡ false → choose_by n.more_arguments y ≡ Some p.no_more_arguments
      by k.Comma e = absurd cc
      by y e = refl

  elements_from : (i : ℕ) (ts : List Lexeme) → length ts ≤ i → Reads n.more_elements d ts (list_from k.Comma p.no_more_elements p.next_element (element_at b) i ts)
  unfolding list_from
  elements_from zero [] l = elements_end [] refl
  elements_from zero (x ∷ ts) l = absurd (omega arith)
  elements_from (suc i) [] l = elements_end [] refl
  elements_from (suc i) (x ∷ ts) l = by (begins k.Comma (x ∷ ts)) refl (λ us m. elements_from i us m)
    where
      by : (c : Bool) → begins k.Comma (x ∷ ts) ≡ c → ((us : List Lexeme) → length us ≤ i → Reads n.more_elements d us (list_from k.Comma p.no_more_elements p.next_element (element_at b) i us))
          → Reads n.more_elements d (x ∷ ts) (if c then (element_at b ts >>= λ y. list_from k.Comma p.no_more_elements p.next_element (element_at b) i y.1 >>= λ z. Ok (of p.next_element (word ∷ y.0 ∷ z.0 ∷ []), z.1)) else Ok (of p.no_more_elements [], x ∷ ts))
      by false e more = elements_end (x ∷ ts) e
      by true e more =
          let is : kind_of x ≡ k.Comma = same_kind x k.Comma e in
          subst (λ (r : _). Reads n.more_elements d (x ∷ ts) r) (sym (second_read p.next_element (ask (q.word k.Comma)) (element_at b) (list_from k.Comma p.no_more_elements p.next_element (element_at b) i) word (x ∷ ts) ts (word_asked k.Comma x ts e)))
          (list_step p.next_element k.Comma n.element n.more_elements refl (joins p.next_element) refl refl refl d x ts (at_kind n.more_elements x k.Comma _ is refl) e (element_at b) (list_from k.Comma p.no_more_elements p.next_element (element_at b) i) element_reads (λ us m. more us (let k : length (x ∷ ts) ≤ suc i = l in omega arith)))

  arguments_from : (i : ℕ) (ts : List Lexeme) → length ts ≤ i → Reads n.more_arguments d ts (list_from k.Comma p.no_more_arguments p.next_argument (argument_at b) i ts)
  unfolding list_from
  arguments_from zero [] l = arguments_end [] refl
  arguments_from zero (x ∷ ts) l = absurd (omega arith)
  arguments_from (suc i) [] l = arguments_end [] refl
  arguments_from (suc i) (x ∷ ts) l = by (begins k.Comma (x ∷ ts)) refl (λ us m. arguments_from i us m)
    where
      by : (c : Bool) → begins k.Comma (x ∷ ts) ≡ c → ((us : List Lexeme) → length us ≤ i → Reads n.more_arguments d us (list_from k.Comma p.no_more_arguments p.next_argument (argument_at b) i us))
          → Reads n.more_arguments d (x ∷ ts) (if c then (argument_at b ts >>= λ y. list_from k.Comma p.no_more_arguments p.next_argument (argument_at b) i y.1 >>= λ z. Ok (of p.next_argument (word ∷ y.0 ∷ z.0 ∷ []), z.1)) else Ok (of p.no_more_arguments [], x ∷ ts))
      by false e more = arguments_end (x ∷ ts) e
      by true e more =
          let is : kind_of x ≡ k.Comma = same_kind x k.Comma e in
          subst (λ (r : _). Reads n.more_arguments d (x ∷ ts) r) (sym (second_read p.next_argument (ask (q.word k.Comma)) (argument_at b) (list_from k.Comma p.no_more_arguments p.next_argument (argument_at b) i) word (x ∷ ts) ts (word_asked k.Comma x ts e)))
          (list_step p.next_argument k.Comma n.argument n.more_arguments refl (joins p.next_argument) refl refl refl d x ts (at_kind n.more_arguments x k.Comma _ is refl) e (argument_at b) (list_from k.Comma p.no_more_arguments p.next_argument (argument_at b) i) argument_reads (λ us m. more us (let k : length (x ∷ ts) ≤ suc i = l in omega arith)))

  more_elements_reads : (ts : List Lexeme) → Reads n.more_elements d ts (more_elements_at b ts)
  more_elements_reads ts = elements_from (length ts) ts (omega arith)

  pub more_arguments_reads : (ts : List Lexeme) → Reads n.more_arguments d ts (more_arguments_at b ts)
  more_arguments_reads ts = arguments_from (length ts) ts (omega arith)

  elements_with : (ts : List Lexeme) (c : Bool) → begins k.CloseBracket ts ≡ c → Reads n.elements d ts (elements_by c b ts)
  unfolding elements_by
  elements_with ts true e = empty p.no_elements d ts (closing ts true e) refl refl refl refl
  elements_with ts false e = plain p.elements d ts (closing ts false e) refl refl refl (element_at b ∷ more_elements_at b ∷ []) (element_reads, (more_elements_reads, tt))

  pub elements_reads : (ts : List Lexeme) → Reads n.elements d ts (elements_at b ts)
  elements_reads ts = elements_with ts (begins k.CloseBracket ts) refl

  -- each part that is held
  pub parts_read : (m : Part) → Held m → (ts : List Lexeme) → Reads m d ts (expression_parts b m ts)
  parts_read n.expression i ts = expression_reads ts
  parts_read n.term i ts = term_reads ts
  parts_read n.terms i ts = terms_reads ts
  parts_read n.factor i ts = factor_reads ts
  parts_read n.factors i ts = factors_reads ts
  parts_read n.selectors i ts = selectors_reads ts
  parts_read n.more_indexes i ts = more_indexes_reads ts
  parts_read n.elements i ts = elements_reads ts
  parts_read n.argument i ts = argument_reads ts
  parts_read n.more_arguments i ts = more_arguments_reads ts
  parts_read m i ts = absurd i

-- the readers within each depth
pub inside_reads : (d : ℕ) → AreRead Held d (inside d)
unfolding inside
inside_reads zero = tt
inside_reads (suc d) = record { depth = refl; meets = parts_read d (inside d) (inside_reads d) }
