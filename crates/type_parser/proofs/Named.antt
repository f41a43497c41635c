-- The readers of names, pointers and subranges meet the grammar.
use Rattle.std.proofs.Common.{◌≡◌, ℕ, Bool, true, false, cond, if◌then◌else◌, List, [], ◌∷◌, Option, Some, None, Ok, refl, sym, ap, subst, ◌∙◌}
use Rattle.pascal_grammar.specs.declared.kind.Kind.{Kind}
use Rattle.pascal_grammar.specs.declared.kind.Kind.TheVariants as k
use Rattle.pascal_grammar.specs.declared.lexeme.Lexeme.{Lexeme}
use Rattle.pascal_grammar.specs.declared.operator.Adder.{Adder}
use Rattle.pascal_grammar.specs.declared.operator.Multiplier.{Multiplier}
use Rattle.pascal_grammar.specs.declared.operator.Sign.{Sign}
use Rattle.pascal_grammar.specs.Operators.{adder_of, multiplier_of, sign_of}
use Rattle.pascal_grammar.specs.Asked.{Asked, accepts, same, is_name, is_sign, is_adder, is_multiplier}
use Rattle.pascal_grammar.specs.Asked as q
use Rattle.pascal_grammar.specs.Lexemes.{kind_of, front_kind, kept}
use Rattle.pascal_grammar.specs.Lexemes as v
use Rattle.pascal_grammar.specs.Parts as n
use Rattle.pascal_grammar.specs.Productions.{Production}
use Rattle.pascal_grammar.specs.Productions as p
use Rattle.pascal_grammar.specs.Choices.{choose, choose_by}
use Rattle.pascal_grammar.proofs.Somes.{joins}
use Rattle.pascal_grammar.proofs.Tables.{Follow}
use Rattle.pascal_grammar.proofs.Reading.{Reads, asked, plain, begun, empty}
use Rattle.pascal_grammar.specs.Rules.{grammar}
use Rattle.ll1_grammar.proofs.Meeting.{one, Meets}
use Rattle.ll1_grammar.specs.Grammar.{token, part, leaf}
use Rattle.ll1_grammar.specs.Readers.{made, opened, kept_by}
use Rattle.syntax_tree.specs.declared.expression.PlacedSign.{PlacedSign}
use Rattle.syntax_tree.specs.Expressions.{of}
use Rattle.expression_parser.specs.declared.lookahead.FactorStart.{FactorStart}
use Rattle.expression_parser.specs.declared.lookahead.FactorStart.TheVariants as factor
use Rattle.expression_parser.specs.Gives.{Inside, ask, name_at}
use Rattle.expression_parser.specs.Gives as g
use Rattle.expression_parser.specs.Starting.{selector_start, factor_start}
use Rattle.expression_parser.specs.Reading.{begins, leaves, inside, adder_at, multiplier_at, placed_sign, sign_found, sign_at, field_at, index_at, dereference_at, selectors_by, selectors_at, call_by, call_at, arguments_at, argument_end_at, control_at, named_factor_at, closed_factor_at, wrapped, factor_by, factor_at, factors_by, factors_at, term_at, terms_by, terms_at, simple_at}
use Rattle.expression_parser.proofs.Shapes.{begins_is, operator_read, adder_asked, multiplier_asked}
use Rattle.expression_parser.proofs.Sound as expressions
use Rattle.type_parser.proofs.parameter_parser.Behind.{Outcome, at_kind, absent, left_at, opens_at, known_step, last_part}
use Rattle.type_parser.specs.Starting.{behind_name, behind_caret}
use Rattle.type_parser.specs.Reading.{range_at, named_by, named_type_at, letter_by, letter_type_at, caret_by, caret_type_at}
use Rattle.type_parser.proofs.Ranges.{signed, closed, selected, called, multiplied, added, bounded, control_multiplied, control_added, control_bounded}

-- the lexeme that is asked for stands there
pub there : (s : Asked) (x : Lexeme) (ts : List Lexeme) → accepts s (kind_of x) ≡ true → ask s (x ∷ ts) ≡ Ok (leaf (kept s x), ts)
there s x ts e = ap (λ (c : Bool). kept_by {P = Production} (cond c (Some (kept s x)) None) x ts) e

no_letter : (y : Kind) → same y k.Letter ≡ false → choose_by n.target y ≡ Some p.long_target
no_letter k.Letter e = absurd cc
no_letter y e = refl

pub no_sign : (y : Kind) → is_sign y ≡ false → sign_of y ≡ None
no_sign k.Plus e = absurd cc
no_sign k.Minus e = absurd cc
no_sign y e = refl

-- a sign in front
pub sign_there : (x : Lexeme) (ts : List Lexeme) (y : Kind) (a : Sign) → kind_of x ≡ y → sign_of y ≡ Some a → sign_found (x ∷ ts) ≡ Some (record { sign = a; position = x.position })
sign_there x ts y a e h = ap (λ (w : Kind). placed_sign (sign_of w) x.position) e ∙ ap (λ (o : Option Sign). placed_sign o x.position) h

module _ (d : ℕ) where
  abbrev b : Inside
  b = inside d

  abbrev dots : g.Reads
  dots = ask (q.word k.Dots)

  dots_reads : (ts : List Lexeme) → Meets grammar Follow (one grammar Follow (token (q.word k.Dots))) d ts (dots ts)
  dots_reads = asked (q.word k.Dots) refl d

  simple_reads : (ts : List Lexeme) → Reads n.simple d ts (simple_at b ts)
  simple_reads = expressions.simple_reads d b (expressions.inside_reads d)

  terms_reads : (ts : List Lexeme) → Reads n.terms d ts (terms_at b ts)
  terms_reads = expressions.terms_reads d b (expressions.inside_reads d)

  factors_reads : (ts : List Lexeme) → Reads n.factors d ts (factors_at b ts)
  factors_reads = expressions.factors_reads d b (expressions.inside_reads d)

  call_reads : (ts : List Lexeme) → Reads n.call d ts (call_at b ts)
  call_reads = expressions.call_reads d b (expressions.inside_reads d)

  -- ---- what an operator or a selector begins

  abbrev field : g.Reads
  field = opened p.field (λ e l. ask (q.mark k.Dot) ∷ name_at ∷ l n.selectors ∷ []) b

  abbrev index : g.Reads
  index = opened p.index (λ e l. ask (q.mark k.OpenBracket) ∷ l n.expression ∷ l n.more_indexes ∷ []) b

  abbrev target : g.Reads
  target = opened p.dereference (λ e l. ask (q.mark k.Caret) ∷ l n.selectors ∷ []) b

  abbrev product : g.Reads
  product = opened p.multiplied (λ e l. ask q.multiplier ∷ sign_at ∷ l n.factor ∷ l n.factors ∷ []) b

  abbrev sum : g.Reads
  sum = opened p.added (λ e l. ask q.adder ∷ sign_at ∷ l n.term ∷ l n.terms ∷ []) b

  field_reads : (z : Lexeme) (zs : List Lexeme) → kind_of z ≡ k.Dot → Reads n.selector d (z ∷ zs) (field (z ∷ zs))
  field_reads z zs e = opens_at expressions.Held p.field k.Dot (q.mark k.Dot) refl refl refl refl refl (token q.name ∷ part n.selectors ∷ []) refl (joins p.field) (λ e l. name_at ∷ l n.selectors ∷ []) d b (expressions.inside_reads d) (λ e l m. (asked q.name refl e, (m.meets n.selectors tt, tt))) (z ∷ zs) (rw e refl)

  index_reads : (z : Lexeme) (zs : List Lexeme) → kind_of z ≡ k.OpenBracket → Reads n.selector d (z ∷ zs) (index (z ∷ zs))
  index_reads z zs e = opens_at expressions.Held p.index k.OpenBracket (q.mark k.OpenBracket) refl refl refl refl refl (part n.expression ∷ part n.more_indexes ∷ []) refl (joins p.index) (λ e l. l n.expression ∷ l n.more_indexes ∷ []) d b (expressions.inside_reads d) (λ e l m. (m.meets n.expression tt, (m.meets n.more_indexes tt, tt))) (z ∷ zs) (rw e refl)

  target_reads : (z : Lexeme) (zs : List Lexeme) → kind_of z ≡ k.Caret → Reads n.selector d (z ∷ zs) (target (z ∷ zs))
  target_reads z zs e = opens_at expressions.Held p.dereference k.Caret (q.mark k.Caret) refl refl refl refl refl (part n.selectors ∷ []) refl (joins p.dereference) (λ e l. l n.selectors ∷ []) d b (expressions.inside_reads d) (λ e l m. (m.meets n.selectors tt, tt)) (z ∷ zs) (rw e refl)

  product_reads : (z : Lexeme) (zs : List Lexeme) (y : Kind) → kind_of z ≡ y → is_multiplier y ≡ true → choose_by n.multiplied y ≡ Some p.multiplied → same (kind_of z) y ≡ true → Reads n.multiplied d (z ∷ zs) (product (z ∷ zs))
  product_reads z zs y e i c s = opens_at expressions.Held p.multiplied y q.multiplier i c refl refl refl (part n.sign ∷ part n.factor ∷ part n.factors ∷ []) refl (joins p.multiplied) (λ e l. sign_at ∷ l n.factor ∷ l n.factors ∷ []) d b (expressions.inside_reads d) (λ e l m. (expressions.sign_reads e, (m.meets n.factor tt, (m.meets n.factors tt, tt)))) (z ∷ zs) s

  sum_reads : (z : Lexeme) (zs : List Lexeme) (y : Kind) → kind_of z ≡ y → is_adder y ≡ true → choose_by n.added y ≡ Some p.added → same (kind_of z) y ≡ true → Reads n.added d (z ∷ zs) (sum (z ∷ zs))
  sum_reads z zs y e i c s = opens_at expressions.Held p.added y q.adder i c refl refl refl (part n.sign ∷ part n.term ∷ part n.terms ∷ []) refl (joins p.added) (λ e l. sign_at ∷ l n.term ∷ l n.terms ∷ []) d b (expressions.inside_reads d) (λ e l m. (expressions.sign_reads e, (m.meets n.term tt, (m.meets n.terms tt, tt)))) (z ∷ zs) s

  -- the selector in front
  front_selector : (z : Lexeme) (zs : List Lexeme) (y : Kind) → kind_of z ≡ y → selectors_at b (z ∷ zs) ≡ selectors_by (selector_start (Some y)) b (z ∷ zs)
  front_selector z zs y e = ap (λ (w : Kind). selectors_by (selector_start (Some w)) b (z ∷ zs)) e

  -- ---- what is not there

  pub no_selectors : (z : Lexeme) (zs : List Lexeme) (y : Kind) → kind_of z ≡ y → selector_start (Some y) ≡ None → selectors_at b (z ∷ zs) ≡ Ok (of p.no_selectors [], z ∷ zs)
  unfolding selectors_by
  no_selectors z zs y e h = rw (e, h) refl

  pub no_call : (z : Lexeme) (zs : List Lexeme) (y : Kind) → kind_of z ≡ y → same y k.Open ≡ false → call_at b (z ∷ zs) ≡ Ok (of p.no_call [], z ∷ zs)
  unfolding call_by
  no_call z zs y e h = rw (e, h) refl

  pub no_factors : (z : Lexeme) (zs : List Lexeme) (y : Kind) → kind_of z ≡ y → multiplier_of y ≡ None → same y k.Slash ≡ false → factors_at b (z ∷ zs) ≡ Ok (of p.no_factors [], z ∷ zs)
  unfolding factors_by
  no_factors z zs y e h i = rw (e, h, i) refl

  pub no_terms : (z : Lexeme) (zs : List Lexeme) (y : Kind) → kind_of z ≡ y → adder_of y ≡ None → terms_at b (z ∷ zs) ≡ Ok (of p.no_terms [], z ∷ zs)
  unfolding terms_by
  no_terms z zs y e h = rw (e, h) refl

  some_factors : (z : Lexeme) (zs : List Lexeme) (y : Kind) (a : Multiplier) → kind_of z ≡ y → multiplier_of y ≡ Some a → factors_at b (z ∷ zs) ≡ made p.more_factors (product ∷ []) (z ∷ zs)
  unfolding factors_by
  some_factors z zs y a e h =
      let o : multiplier_at (z ∷ zs) ≡ Some (a, z.position) = rw (e, h) refl in
      rw o (operator_read p.more_factors p.multiplied (ask q.multiplier) (leaf (v.multiplier a z.position)) n.factor n.factors b (z ∷ zs) (multiplier_asked (z ∷ zs) (a, z.position) o))

  some_terms : (z : Lexeme) (zs : List Lexeme) (y : Kind) (a : Adder) → kind_of z ≡ y → adder_of y ≡ Some a → terms_at b (z ∷ zs) ≡ made p.more_terms (sum ∷ []) (z ∷ zs)
  unfolding terms_by
  some_terms z zs y a e h =
      let o : adder_at (z ∷ zs) ≡ Some (a, z.position) = rw (e, h) refl in
      rw o (operator_read p.more_terms p.added (ask q.adder) (leaf (v.adder a z.position)) n.term n.terms b (z ∷ zs) (adder_asked (z ∷ zs) (a, z.position) o))

  -- ---- names

  module _ (x : Lexeme) (y : Kind) (is : kind_of x ≡ y) (i : is_name y ≡ true) where
    is_there : accepts q.name (kind_of x) ≡ true
    is_there = ap is_name is ∙ i

    chosen : choose n.type (Some (kind_of x)) ≡ Some p.type_name
    chosen = at_kind n.type x y _ is (by y i)
      where
        by : (y : Kind) → is_name y ≡ true → choose_by n.type y ≡ Some p.type_name
        by k.Letter e = refl
        by k.Absolute e = refl
        by k.External e = refl
        by k.Forward e = refl
        by k.Interrupt e = refl
        by k.Name e = refl
        by y e = absurd cc

    pub unsigned_name : (ts : List Lexeme) → sign_found (x ∷ ts) ≡ None
    unsigned_name ts = rw (is, by y i) refl
      where
        by : (y : Kind) → is_name y ≡ true → sign_of y ≡ None
        by k.Plus e = absurd cc
        by k.Minus e = absurd cc
        by y e = refl

    pub name_factor : (ts : List Lexeme) → factor_at b (x ∷ ts) ≡ made p.bare_factor (named_factor_at b ∷ []) (x ∷ ts)
    unfolding factor_by
    name_factor ts = rw (is, by y i) refl
      where
        by : (y : Kind) → is_name y ≡ true → factor_start (Some y) ≡ factor.Named
        by k.Letter e = refl
        by k.Absolute e = refl
        by k.External e = refl
        by k.Forward e = refl
        by k.Interrupt e = refl
        by k.Name e = refl
        by y e = absurd cc

    -- by the reader of what stands behind it
    name_with : (ts : List Lexeme) (after : g.Reads) → Reads n.after_type_name d ts (after ts) → Reads n.type d (x ∷ ts) (made p.type_name (name_at ∷ after ∷ []) (x ∷ ts))
    name_with ts after m = known_step p.type_name q.name (part n.after_type_name ∷ []) refl (joins p.type_name) refl refl refl d x ts chosen is_there (after ∷ []) (last_part n.after_type_name (Follow n.type) (joins p.type_name).1 d ts after m)

    module _ (z : Lexeme) (zs : List Lexeme) where
      abbrev us : List Lexeme
      us = z ∷ zs

      abbrev ts : List Lexeme
      ts = x ∷ us

      selected_by : (r : g.Reads) (w : Kind) → kind_of z ≡ w → choose_by n.after_type_name w ≡ Some p.selected_range → selectors_at b us ≡ made p.more_selectors (r ∷ []) us → Reads n.selector d us (r us) → Reads n.type d ts (range_at d ts)
      selected_by r w e c s m =
          let after = made p.selected_range (r ∷ call_at b ∷ factors_at b ∷ terms_at b ∷ dots ∷ simple_at b ∷ []) in
          let behind = begun p.selected_range d us (at_kind n.after_type_name z w _ e c) refl refl refl (part n.selector) (part n.call ∷ part n.factors ∷ part n.terms ∷ token (q.word k.Dots) ∷ part n.simple ∷ []) refl (joins p.selected_range) r (call_at b ∷ factors_at b ∷ terms_at b ∷ dots ∷ simple_at b ∷ []) m (call_reads, (factors_reads, (terms_reads, (dots_reads, (simple_reads, tt))))) in
          subst (λ (o : Outcome). Reads n.type d ts o) (sym (selected d ts us _ (there q.name x us is_there) (unsigned_name us) (name_factor us) r s)) (name_with us after behind)

      called_by : kind_of z ≡ k.Open → Reads n.type d ts (range_at d ts)
      unfolding call_by
      called_by e =
          let rs = arguments_at b ∷ argument_end_at ∷ factors_at b ∷ terms_at b ∷ dots ∷ simple_at b ∷ [] in
          let c : call_at b us ≡ made p.call (arguments_at b ∷ argument_end_at ∷ []) us = rw e refl in
          let behind = begun p.called_range d us (at_kind n.after_type_name z k.Open _ e refl) refl refl refl (part n.arguments) (part n.argument_end ∷ part n.factors ∷ part n.terms ∷ token (q.word k.Dots) ∷ part n.simple ∷ []) refl (joins p.called_range) (arguments_at b) (argument_end_at ∷ factors_at b ∷ terms_at b ∷ dots ∷ simple_at b ∷ [])
          (expressions.arguments_reads d b (expressions.inside_reads d) z zs e) (expressions.argument_end_reads d b (expressions.inside_reads d), (factors_reads, (terms_reads, (dots_reads, (simple_reads, tt))))) in
          subst (λ (o : Outcome). Reads n.type d ts o) (sym (called d ts us _ (there q.name x us is_there) (unsigned_name us) (name_factor us) (no_selectors z zs k.Open e refl) c)) (name_with us (made p.called_range rs) behind)

      multiplied_by : (w : Kind) (a : Multiplier) → kind_of z ≡ w → multiplier_of w ≡ Some a → is_multiplier w ≡ true → same (kind_of z) w ≡ true → selector_start (Some w) ≡ None → same w k.Open ≡ false → choose_by n.multiplied w ≡ Some p.multiplied → choose_by n.after_type_name w ≡ Some p.multiplied_range → Reads n.type d ts (range_at d ts)
      multiplied_by w a e m i s f o c c2 =
          let behind = begun p.multiplied_range d us (at_kind n.after_type_name z w _ e c2) refl refl refl (part n.multiplied) (part n.terms ∷ token (q.word k.Dots) ∷ part n.simple ∷ []) refl (joins p.multiplied_range) product (terms_at b ∷ dots ∷ simple_at b ∷ []) (product_reads z zs w e i c s) (terms_reads, (dots_reads, (simple_reads, tt))) in
          subst (λ (o : Outcome). Reads n.type d ts o) (sym (multiplied d ts us _ (there q.name x us is_there) (unsigned_name us) (name_factor us) (no_selectors z zs w e f) (no_call z zs w e o) product (some_factors z zs w a e m))) (name_with us (made p.multiplied_range (product ∷ terms_at b ∷ dots ∷ simple_at b ∷ [])) behind)

      added_by : (w : Kind) (a : Adder) → kind_of z ≡ w → adder_of w ≡ Some a → is_adder w ≡ true → same (kind_of z) w ≡ true → selector_start (Some w) ≡ None → same w k.Open ≡ false → multiplier_of w ≡ None → same w k.Slash ≡ false → choose_by n.added w ≡ Some p.added → choose_by n.after_type_name w ≡ Some p.added_range → Reads n.type d ts (range_at d ts)
      added_by w a e m i s f o n1 n2 c c2 =
          let behind = begun p.added_range d us (at_kind n.after_type_name z w _ e c2) refl refl refl (part n.added) (token (q.word k.Dots) ∷ part n.simple ∷ []) refl (joins p.added_range) sum (dots ∷ simple_at b ∷ []) (sum_reads z zs w e i c s) (dots_reads, (simple_reads, tt)) in
          subst (λ (o : Outcome). Reads n.type d ts o) (sym (added d ts us _ (there q.name x us is_there) (unsigned_name us) (name_factor us) (no_selectors z zs w e f) (no_call z zs w e o) (no_factors z zs w e n1 n2) sum (some_terms z zs w a e m))) (name_with us (made p.added_range (sum ∷ dots ∷ simple_at b ∷ [])) behind)

      bounded_by : kind_of z ≡ k.Dots → Reads n.type d ts (range_at d ts)
      bounded_by e =
          let behind = plain p.named_range d us (at_kind n.after_type_name z k.Dots _ e refl) refl refl refl (dots ∷ simple_at b ∷ []) (dots_reads, (simple_reads, tt)) in
          subst (λ (o : Outcome). Reads n.type d ts o) (sym (bounded d ts us _ (there q.name x us is_there) (unsigned_name us) (name_factor us) (no_selectors z zs k.Dots e refl) (no_call z zs k.Dots e refl) (no_factors z zs k.Dots e refl refl) (no_terms z zs k.Dots e refl))) (name_with us (made p.named_range (dots ∷ simple_at b ∷ [])) behind)

      quotient_by : kind_of z ≡ k.Slash → Reads n.type d ts (leaves p.divided_range us)
      quotient_by e =
          let is : made p.type_name (name_at ∷ leaves p.divided_range ∷ []) ts ≡ leaves p.divided_range us = rw (there q.name x us is_there) refl in
          subst (λ (o : Outcome). Reads n.type d ts o) is (name_with us (leaves p.divided_range) (left_at p.divided_range k.Slash refl refl refl refl d us (rw e refl)))

      behind_by_kind : (w : Kind) → kind_of z ≡ w → Reads n.type d ts (named_by (behind_name (Some w)) d ts)
      unfolding named_by selectors_by field_at index_at dereference_at
      behind_by_kind k.Dot e = selected_by field k.Dot e refl (front_selector z zs k.Dot e) (field_reads z zs e)
      behind_by_kind k.OpenBracket e = selected_by index k.OpenBracket e refl (front_selector z zs k.OpenBracket e) (index_reads z zs e)
      behind_by_kind k.Caret e = selected_by target k.Caret e refl (front_selector z zs k.Caret e) (target_reads z zs e)
      behind_by_kind k.Open e = called_by e
      behind_by_kind k.Dots e = bounded_by e
      behind_by_kind k.Slash e = quotient_by e
      behind_by_kind k.Times e = multiplied_by k.Times _ e refl refl (rw e refl) refl refl refl refl
      behind_by_kind k.Div e = multiplied_by k.Div _ e refl refl (rw e refl) refl refl refl refl
      behind_by_kind k.Mod e = multiplied_by k.Mod _ e refl refl (rw e refl) refl refl refl refl
      behind_by_kind k.And e = multiplied_by k.And _ e refl refl (rw e refl) refl refl refl refl
      behind_by_kind k.Shl e = multiplied_by k.Shl _ e refl refl (rw e refl) refl refl refl refl
      behind_by_kind k.Shr e = multiplied_by k.Shr _ e refl refl (rw e refl) refl refl refl refl
      behind_by_kind k.Plus e = added_by k.Plus _ e refl refl (rw e refl) refl refl refl refl refl refl
      behind_by_kind k.Minus e = added_by k.Minus _ e refl refl (rw e refl) refl refl refl refl refl refl
      behind_by_kind k.Or e = added_by k.Or _ e refl refl (rw e refl) refl refl refl refl refl refl
      behind_by_kind k.Xor e = added_by k.Xor _ e refl refl (rw e refl) refl refl refl refl refl refl
      behind_by_kind w e = name_with us (λ vs. Ok (of p.only_name [], vs)) (empty p.only_name d us (at_kind n.after_type_name z w _ e refl) refl refl refl refl)

    pub named_type_reads : (us : List Lexeme) → Reads n.type d (x ∷ us) (named_type_at d (x ∷ us))
    unfolding named_by
    named_type_reads [] = name_with [] (λ vs. Ok (of p.only_name [], vs)) (empty p.only_name d [] refl refl refl refl refl)
    named_type_reads (z ∷ zs) = behind_by_kind z zs (kind_of z) refl

  -- ---- carets

  module _ (x : Lexeme) (is : kind_of x ≡ k.Caret) where
    caret_there : accepts (q.mark k.Caret) (kind_of x) ≡ true
    caret_there = rw is refl

    -- by the reader of what stands behind it
    caret_with : (us : List Lexeme) (target : g.Reads) → Reads n.target d us (target us) → Reads n.type d (x ∷ us) (made p.caret_type (ask (q.mark k.Caret) ∷ target ∷ []) (x ∷ us))
    caret_with us target m = known_step p.caret_type (q.mark k.Caret) (part n.target ∷ []) refl (joins p.caret_type) refl refl refl d x us (at_kind n.type x k.Caret _ is refl) caret_there (target ∷ []) (last_part n.target (Follow n.type) (joins p.caret_type).1 d us target m)

    module _ (z : Lexeme) (vs : List Lexeme) (letter : kind_of z ≡ k.Letter) where
      abbrev ls : List Lexeme
      ls = z ∷ vs

      abbrev cs : List Lexeme
      cs = x ∷ ls

      letter_there : accepts q.letter (kind_of z) ≡ true
      letter_there = rw letter refl

      letter_with : (after : g.Reads) → Reads n.after_letter d vs (after vs) → Reads n.type d cs (made p.caret_type (ask (q.mark k.Caret) ∷ made p.letter_target (ask q.letter ∷ after ∷ []) ∷ []) cs)
      letter_with after m =
          caret_with ls (made p.letter_target (ask q.letter ∷ after ∷ []))
          (known_step p.letter_target q.letter (part n.after_letter ∷ []) refl (joins p.letter_target) refl refl refl d z vs (at_kind n.target z k.Letter _ letter refl) letter_there (after ∷ []) (last_part n.after_letter (Follow n.target) (joins p.letter_target).1 d vs after m))

      unsigned_caret : sign_found cs ≡ None
      unsigned_caret = rw is refl

      caret_factor : factor_at b cs ≡ made p.bare_factor (control_at ∷ []) cs
      unfolding factor_by
      caret_factor = rw is refl

      multiplied_letter : (w : Lexeme) (ws : List Lexeme) (y : Kind) (a : Multiplier) → vs ≡ w ∷ ws → kind_of w ≡ y → multiplier_of y ≡ Some a → is_multiplier y ≡ true → same (kind_of w) y ≡ true → choose_by n.multiplied y ≡ Some p.multiplied → choose_by n.after_letter y ≡ Some p.multiplied_control → Reads n.type d cs (range_at d cs)
      multiplied_letter w ws y a v e m i s c c2 =
          let at_front = begun p.multiplied_control d (w ∷ ws) (at_kind n.after_letter w y _ e c2) refl refl refl (part n.multiplied) (part n.terms ∷ token (q.word k.Dots) ∷ part n.simple ∷ []) refl (joins p.multiplied_control) product (terms_at b ∷ dots ∷ simple_at b ∷ []) (product_reads w ws y e i c s) (terms_reads, (dots_reads, (simple_reads, tt))) in
          let behind = subst (λ (l : List Lexeme). Reads n.after_letter d l (made p.multiplied_control (product ∷ terms_at b ∷ dots ∷ simple_at b ∷ []) l)) (sym v) at_front in
          let factors : factors_at b vs ≡ made p.more_factors (product ∷ []) vs = subst (λ (l : List Lexeme). factors_at b l ≡ made p.more_factors (product ∷ []) l) (sym v) (some_factors w ws y a e m) in
          subst (λ (o : Outcome). Reads n.type d cs o) (sym (control_multiplied d cs ls vs _ _ (there (q.mark k.Caret) x ls caret_there) (there q.letter z vs letter_there) unsigned_caret caret_factor product factors)) (letter_with (made p.multiplied_control (product ∷ terms_at b ∷ dots ∷ simple_at b ∷ [])) behind)

      added_letter : (w : Lexeme) (ws : List Lexeme) (y : Kind) (a : Adder) → vs ≡ w ∷ ws → kind_of w ≡ y → adder_of y ≡ Some a → is_adder y ≡ true → same (kind_of w) y ≡ true → multiplier_of y ≡ None → same y k.Slash ≡ false → choose_by n.added y ≡ Some p.added → choose_by n.after_letter y ≡ Some p.added_control → Reads n.type d cs (range_at d cs)
      added_letter w ws y a v e m i s n1 n2 c c2 =
          let at_front = begun p.added_control d (w ∷ ws) (at_kind n.after_letter w y _ e c2) refl refl refl (part n.added) (token (q.word k.Dots) ∷ part n.simple ∷ []) refl (joins p.added_control) sum (dots ∷ simple_at b ∷ []) (sum_reads w ws y e i c s) (dots_reads, (simple_reads, tt)) in
          let behind = subst (λ (l : List Lexeme). Reads n.after_letter d l (made p.added_control (sum ∷ dots ∷ simple_at b ∷ []) l)) (sym v) at_front in
          let factors : factors_at b vs ≡ Ok (of p.no_factors [], vs) = subst (λ (l : List Lexeme). factors_at b l ≡ Ok (of p.no_factors [], l)) (sym v) (no_factors w ws y e n1 n2) in
          let terms : terms_at b vs ≡ made p.more_terms (sum ∷ []) vs = subst (λ (l : List Lexeme). terms_at b l ≡ made p.more_terms (sum ∷ []) l) (sym v) (some_terms w ws y a e m) in
          subst (λ (o : Outcome). Reads n.type d cs o) (sym (control_added d cs ls vs _ _ (there (q.mark k.Caret) x ls caret_there) (there q.letter z vs letter_there) unsigned_caret caret_factor factors sum terms)) (letter_with (made p.added_control (sum ∷ dots ∷ simple_at b ∷ [])) behind)

      bounded_letter : (w : Lexeme) (ws : List Lexeme) → vs ≡ w ∷ ws → kind_of w ≡ k.Dots → Reads n.type d cs (range_at d cs)
      bounded_letter w ws v e =
          let at_front = plain p.control_range d (w ∷ ws) (at_kind n.after_letter w k.Dots _ e refl) refl refl refl (dots ∷ simple_at b ∷ []) (dots_reads, (simple_reads, tt)) in
          let behind = subst (λ (l : List Lexeme). Reads n.after_letter d l (made p.control_range (dots ∷ simple_at b ∷ []) l)) (sym v) at_front in
          let factors : factors_at b vs ≡ Ok (of p.no_factors [], vs) = subst (λ (l : List Lexeme). factors_at b l ≡ Ok (of p.no_factors [], l)) (sym v) (no_factors w ws k.Dots e refl refl) in
          let terms : terms_at b vs ≡ Ok (of p.no_terms [], vs) = subst (λ (l : List Lexeme). terms_at b l ≡ Ok (of p.no_terms [], l)) (sym v) (no_terms w ws k.Dots e refl) in
          subst (λ (o : Outcome). Reads n.type d cs o) (sym (control_bounded d cs ls vs _ _ (there (q.mark k.Caret) x ls caret_there) (there q.letter z vs letter_there) unsigned_caret caret_factor factors terms)) (letter_with (made p.control_range (dots ∷ simple_at b ∷ [])) behind)

      quotient_letter : (w : Lexeme) (ws : List Lexeme) → vs ≡ w ∷ ws → kind_of w ≡ k.Slash → Reads n.type d cs (leaves p.divided_control vs)
      quotient_letter w ws v e =
          let is : made p.caret_type (ask (q.mark k.Caret) ∷ made p.letter_target (ask q.letter ∷ leaves p.divided_control ∷ []) ∷ []) cs ≡ leaves p.divided_control vs = rw (there (q.mark k.Caret) x ls caret_there, there q.letter z vs letter_there) refl in
          let slash : begins k.Slash vs ≡ true = ap (begins k.Slash) v ∙ rw e refl in
          subst (λ (o : Outcome). Reads n.type d cs o) is (letter_with (leaves p.divided_control) (left_at p.divided_control k.Slash refl refl refl refl d vs slash))

      letter_by_kind : (w : Lexeme) (ws : List Lexeme) (y : Kind) → vs ≡ w ∷ ws → kind_of w ≡ y → Reads n.type d cs (letter_by (behind_caret (Some y)) d cs)
      unfolding letter_by
      letter_by_kind w ws k.Dots v e = bounded_letter w ws v e
      letter_by_kind w ws k.Slash v e = quotient_letter w ws v e
      letter_by_kind w ws k.Times v e = multiplied_letter w ws k.Times _ v e refl refl (rw e refl) refl refl
      letter_by_kind w ws k.Div v e = multiplied_letter w ws k.Div _ v e refl refl (rw e refl) refl refl
      letter_by_kind w ws k.Mod v e = multiplied_letter w ws k.Mod _ v e refl refl (rw e refl) refl refl
      letter_by_kind w ws k.And v e = multiplied_letter w ws k.And _ v e refl refl (rw e refl) refl refl
      letter_by_kind w ws k.Shl v e = multiplied_letter w ws k.Shl _ v e refl refl (rw e refl) refl refl
      letter_by_kind w ws k.Shr v e = multiplied_letter w ws k.Shr _ v e refl refl (rw e refl) refl refl
      letter_by_kind w ws k.Plus v e = added_letter w ws k.Plus _ v e refl refl (rw e refl) refl refl refl refl
      letter_by_kind w ws k.Minus v e = added_letter w ws k.Minus _ v e refl refl (rw e refl) refl refl refl refl
      letter_by_kind w ws k.Or v e = added_letter w ws k.Or _ v e refl refl (rw e refl) refl refl refl refl
      letter_by_kind w ws k.Xor v e = added_letter w ws k.Xor _ v e refl refl (rw e refl) refl refl refl refl
      letter_by_kind w ws y v e = letter_with (λ ls. Ok (of p.only_letter [], ls)) (subst (λ (l : List Lexeme). Reads n.after_letter d l (Ok (of p.only_letter [], l))) (sym v) (empty p.only_letter d (w ∷ ws) (at_kind n.after_letter w y _ e refl) refl refl refl refl))

    letter_type_reads : (z : Lexeme) (vs : List Lexeme) → kind_of z ≡ k.Letter → Reads n.type d (x ∷ z ∷ vs) (letter_type_at d (x ∷ z ∷ vs))
    unfolding letter_by
    letter_type_reads z [] e = letter_with z [] e (λ us. Ok (of p.only_letter [], us)) (empty p.only_letter d [] refl refl refl refl refl)
    letter_type_reads z (w ∷ ws) e = letter_by_kind z (w ∷ ws) e w ws (kind_of w) refl refl

    caret_type_with : (us : List Lexeme) (c : Bool) → begins k.Letter us ≡ c → Reads n.type d (x ∷ us) (caret_by c d (x ∷ us))
    unfolding caret_by
    caret_type_with [] true e = absurd cc
    caret_type_with (z ∷ vs) true e = let i = begins_is k.Letter (z ∷ vs) e in letter_type_reads z vs (same_front z vs i.0 i.1 i.2 i.3)
      where
        same_front : (z : Lexeme) (vs : List Lexeme) (x : Lexeme) (xs : List Lexeme) → z ∷ vs ≡ x ∷ xs → kind_of x ≡ k.Letter → kind_of z ≡ k.Letter
        same_front z vs x xs e i = let f : z ≡ x = cc in rw f i
    caret_type_with us false e = caret_with us (made p.long_target (ask q.long_name ∷ [])) (plain p.long_target d us (absent n.target k.Letter (Some p.long_target) refl no_letter us e) refl refl refl (ask q.long_name ∷ []) (asked q.long_name refl d, tt))

    pub caret_type_reads : (us : List Lexeme) → Reads n.type d (x ∷ us) (caret_type_at d (x ∷ us))
    caret_type_reads us = caret_type_with us (begins k.Letter us) refl

  -- ---- other subranges

  closed_reads : (ts : List Lexeme) → choose n.type (front_kind ts) ≡ Some p.closed_range → sign_found ts ≡ None → factor_at b ts ≡ wrapped (closed_factor_at b) ts → Reads n.type d ts (range_at d ts)
  closed_reads ts c s f = subst (λ (o : Outcome). Reads n.type d ts o) (sym (closed d ts s f))
      (plain p.closed_range d ts c refl refl refl (closed_factor_at b ∷ factors_at b ∷ terms_at b ∷ dots ∷ simple_at b ∷ []) (expressions.closed_factor_reads d b (expressions.inside_reads d), (factors_reads, (terms_reads, (dots_reads, (simple_reads, tt))))))

  signed_reads : (ts : List Lexeme) (s : PlacedSign) → choose n.type (front_kind ts) ≡ Some p.signed_range → sign_found ts ≡ Some s → Reads n.type d ts (range_at d ts)
  signed_reads ts s c e = subst (λ (o : Outcome). Reads n.type d ts o) (sym (signed d ts s e))
      (plain p.signed_range d ts c refl refl refl (ask q.sign ∷ term_at b ∷ terms_at b ∷ dots ∷ simple_at b ∷ []) (asked q.sign refl d, (expressions.term_reads d b (expressions.inside_reads d), (terms_reads, (dots_reads, (simple_reads, tt))))))

  closed_factor : (x : Lexeme) (ts : List Lexeme) (y : Kind) → kind_of x ≡ y → factor_start (Some y) ≡ factor.Closed → factor_at b (x ∷ ts) ≡ wrapped (closed_factor_at b) (x ∷ ts)
  unfolding factor_by
  closed_factor x ts y e f = ap (λ (w : Kind). factor_by (factor_start (Some w)) b (x ∷ ts)) e ∙ ap (λ (s : FactorStart). factor_by s b (x ∷ ts)) f

  pub range_reads : (x : Lexeme) (ts : List Lexeme) (y : Kind) → kind_of x ≡ y → choose_by n.type y ≡ (if is_sign y then Some p.signed_range else Some p.closed_range) → factor_start (Some y) ≡ factor.Closed → Reads n.type d (x ∷ ts) (range_at d (x ∷ ts))
  unfolding factor_by
  range_reads x ts k.Plus e c f = signed_reads (x ∷ ts) _ (at_kind n.type x k.Plus _ e refl) (sign_there x ts k.Plus _ e refl)
  range_reads x ts k.Minus e c f = signed_reads (x ∷ ts) _ (at_kind n.type x k.Minus _ e refl) (sign_there x ts k.Minus _ e refl)
  range_reads x ts y e c f = closed_reads (x ∷ ts) (at_kind n.type x y _ e c) (rw e refl) (closed_factor x ts y e f)

  pub range_at_end : Reads n.type d [] (range_at d [])
  unfolding factor_by
  range_at_end = closed_reads [] refl refl refl
