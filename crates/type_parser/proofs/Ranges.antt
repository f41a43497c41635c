-- A subrange as the productions that the grammar has for its first bound.
use Rattle.std.proofs.Common.{◌≡◌, ℕ, List, [], ◌∷◌, Some, None, Ok, refl, sym, ap, ◌∙◌}
use Rattle.pascal_grammar.specs.declared.kind.Kind.TheVariants as k
use Rattle.pascal_grammar.specs.declared.lexeme.Lexeme.{Lexeme}
use Rattle.pascal_grammar.specs.Asked as q
use Rattle.pascal_grammar.specs.Lexemes as v
use Rattle.pascal_grammar.specs.Productions.{Production}
use Rattle.pascal_grammar.specs.Productions as p
use Rattle.ll1_grammar.specs.Grammar.{leaf}
use Rattle.ll1_grammar.specs.Readers.{◌>>=◌, made}
use Rattle.syntax_tree.specs.declared.expression.PlacedSign.{PlacedSign}
use Rattle.syntax_tree.specs.Expressions.{Parsed, of}
use Rattle.syntax_tree.specs.type_tree.Regrouped.{range_of}
use Rattle.expression_parser.specs.Gives.{Reads, ask, name_at}
use Rattle.expression_parser.specs.Reading.{tail_of, sign_found, inside, selectors_at, call_at, arguments_at, argument_end_at, closed_factor_at, control_at, named_at, named_factor_at, wrapped, factor_at, factors_at, term_at, terms_at, simple_by, simple_at}
use Rattle.expression_parser.proofs.Shapes.{second_read, pair_read, sign_asked}
use Rattle.type_parser.specs.Reading.{range_at}
use Rattle.type_parser.proofs.Each.{End, Outcome, each, made_each, made_is}

-- the same reader with more behind it
head : (r s : Outcome) (h : End → Outcome) → r ≡ s → (r >>= h) ≡ (s >>= h)
head r s h e = ap (λ (o : Outcome). o >>= h) e

module _ (d : ℕ) where
  abbrev dots : Reads
  dots = ask (q.word k.Dots)

  abbrev simple : Reads
  simple = simple_at (inside d)

  -- the dots and the second bound
  abbrev bound : (List Parsed → Parsed) → List Lexeme → Outcome
  bound f us = dots us >>= λ w. simple w.1 >>= λ j. Ok (f (w.0 ∷ j.0 ∷ []), j.1)

  -- behind the first factor
  abbrev behind_factor : Parsed → List Lexeme → Outcome
  behind_factor f us = factors_at (inside d) us >>= λ g. terms_at (inside d) g.1 >>= λ h. bound (range_of (of p.unsigned (of p.term (f ∷ g.0 ∷ []) ∷ h.0 ∷ []))) h.1

  pub signed : (ts : List Lexeme) (s : PlacedSign) → sign_found ts ≡ Some s → range_at d ts ≡ made p.signed_range (ask q.sign ∷ term_at (inside d) ∷ terms_at (inside d) ∷ dots ∷ simple ∷ []) ts
  unfolding range_at simple_by
  signed ts s e =
      let first : simple_at (inside d) ts ≡ made p.signed (ask q.sign ∷ term_at (inside d) ∷ terms_at (inside d) ∷ []) ts = rw e (second_read p.signed (ask q.sign) (term_at (inside d)) (terms_at (inside d)) (leaf (v.sign s.sign s.position)) ts (tail_of ts) (sign_asked ts s e)) in
      head _ _ (λ i. bound (range_of i.0) i.1) first
      ∙ made_each p.signed (ask q.sign ∷ term_at (inside d) ∷ terms_at (inside d) ∷ []) ts (λ i. bound (range_of i.0) i.1)
      ∙ sym (made_is p.signed_range (ask q.sign ∷ term_at (inside d) ∷ terms_at (inside d) ∷ dots ∷ simple ∷ []) ts)

  -- what has no sign begins with a factor
  unsigned : (ts : List Lexeme) → sign_found ts ≡ None → range_at d ts ≡ (factor_at (inside d) ts >>= λ f. behind_factor f.0 f.1)
  unfolding range_at simple_by term_at
  unsigned ts e =
      let first : simple_at (inside d) ts ≡ made p.unsigned (term_at (inside d) ∷ terms_at (inside d) ∷ []) ts = rw e refl in
      head _ _ (λ i. bound (range_of i.0) i.1) first
      ∙ made_each p.unsigned (term_at (inside d) ∷ terms_at (inside d) ∷ []) ts (λ i. bound (range_of i.0) i.1)
      ∙ made_each p.term (factor_at (inside d) ∷ factors_at (inside d) ∷ []) ts (λ t. terms_at (inside d) t.1 >>= λ h. bound (range_of (of p.unsigned (t.0 ∷ h.0 ∷ []))) h.1)

  pub closed : (ts : List Lexeme) → sign_found ts ≡ None → factor_at (inside d) ts ≡ wrapped (closed_factor_at (inside d)) ts → range_at d ts ≡ made p.closed_range (closed_factor_at (inside d) ∷ factors_at (inside d) ∷ terms_at (inside d) ∷ dots ∷ simple ∷ []) ts
  closed ts e f =
      unsigned ts e
      ∙ head _ _ (λ f. behind_factor f.0 f.1) f
      ∙ made_each p.bare_factor (made p.closed_factor (closed_factor_at (inside d) ∷ []) ∷ []) ts (λ f. behind_factor f.0 f.1)
      ∙ made_each p.closed_factor (closed_factor_at (inside d) ∷ []) ts (λ f. behind_factor (of p.bare_factor (f.0 ∷ [])) f.1)
      ∙ sym (made_is p.closed_range (closed_factor_at (inside d) ∷ factors_at (inside d) ∷ terms_at (inside d) ∷ dots ∷ simple ∷ []) ts)

  -- ---- what begins with a name, where the name and what stands behind it are known

  module _ (ts us : List Lexeme) (t : Parsed) (named : name_at ts ≡ Ok (t, us)) (no_sign : sign_found ts ≡ None) (begins_named : factor_at (inside d) ts ≡ made p.bare_factor (named_factor_at (inside d) ∷ []) ts) where
    -- behind its selectors
    abbrev behind_selectors : Parsed → List Lexeme → Outcome
    behind_selectors s vs = call_at (inside d) vs >>= λ c. behind_factor (of p.bare_factor (of p.named_factor (t ∷ s ∷ c.0 ∷ []) ∷ [])) c.1

    name_first : range_at d ts ≡ (selectors_at (inside d) us >>= λ s. behind_selectors s.0 s.1)
    unfolding named_factor_at named_at
    name_first =
        let whole : named_factor_at (inside d) ts ≡ made p.named_factor (name_at ∷ selectors_at (inside d) ∷ call_at (inside d) ∷ []) ts = pair_read p.named_factor name_at (selectors_at (inside d)) (call_at (inside d)) ts in
        unsigned ts no_sign
        ∙ head _ _ (λ f. behind_factor f.0 f.1) begins_named
        ∙ made_each p.bare_factor (named_factor_at (inside d) ∷ []) ts (λ f. behind_factor f.0 f.1)
        ∙ head _ _ (λ f. behind_factor (of p.bare_factor (f.0 ∷ [])) f.1) whole
        ∙ made_each p.named_factor (name_at ∷ selectors_at (inside d) ∷ call_at (inside d) ∷ []) ts (λ f. behind_factor (of p.bare_factor (f.0 ∷ [])) f.1)
        ∙ head _ _ (λ a. selectors_at (inside d) a.1 >>= λ s. call_at (inside d) s.1 >>= λ c. behind_factor (of p.bare_factor (of p.named_factor (a.0 ∷ s.0 ∷ c.0 ∷ []) ∷ [])) c.1) named

    -- what the grammar has there, by the reader of what stands behind the name
    whole_name : (w : Production) (rs : List Reads) → made p.type_name (name_at ∷ made w rs ∷ []) ts ≡ each rs us (λ xs vs. Ok (of p.type_name (t ∷ of w xs ∷ []), vs))
    whole_name w rs =
        made_is p.type_name (name_at ∷ made w rs ∷ []) ts
        ∙ head _ _ (λ a. made w rs a.1 >>= λ y. Ok (of p.type_name (a.0 ∷ y.0 ∷ []), y.1)) named
        ∙ made_each w rs us (λ y. Ok (of p.type_name (t ∷ y.0 ∷ []), y.1))

    pub selected : (r : Reads) → selectors_at (inside d) us ≡ made p.more_selectors (r ∷ []) us → range_at d ts ≡ made p.type_name (name_at ∷ made p.selected_range (r ∷ call_at (inside d) ∷ factors_at (inside d) ∷ terms_at (inside d) ∷ dots ∷ simple ∷ []) ∷ []) ts
    selected r e =
        name_first
        ∙ head _ _ (λ s. behind_selectors s.0 s.1) e
        ∙ made_each p.more_selectors (r ∷ []) us (λ s. behind_selectors s.0 s.1)
        ∙ sym (whole_name p.selected_range (r ∷ call_at (inside d) ∷ factors_at (inside d) ∷ terms_at (inside d) ∷ dots ∷ simple ∷ []))

    module _ (no_selectors : selectors_at (inside d) us ≡ Ok (of p.no_selectors [], us)) where
      unselected : range_at d ts ≡ behind_selectors (of p.no_selectors []) us
      unselected = name_first ∙ head _ _ (λ s. behind_selectors s.0 s.1) no_selectors

      pub called : call_at (inside d) us ≡ made p.call (arguments_at (inside d) ∷ argument_end_at ∷ []) us → range_at d ts ≡ made p.type_name (name_at ∷ made p.called_range (arguments_at (inside d) ∷ argument_end_at ∷ factors_at (inside d) ∷ terms_at (inside d) ∷ dots ∷ simple ∷ []) ∷ []) ts
      called e =
          unselected
          ∙ head _ _ (λ c. behind_factor (of p.bare_factor (of p.named_factor (t ∷ of p.no_selectors [] ∷ c.0 ∷ []) ∷ [])) c.1) e
          ∙ made_each p.call (arguments_at (inside d) ∷ argument_end_at ∷ []) us (λ c. behind_factor (of p.bare_factor (of p.named_factor (t ∷ of p.no_selectors [] ∷ c.0 ∷ []) ∷ [])) c.1)
          ∙ sym (whole_name p.called_range (arguments_at (inside d) ∷ argument_end_at ∷ factors_at (inside d) ∷ terms_at (inside d) ∷ dots ∷ simple ∷ []))

      module _ (no_call : call_at (inside d) us ≡ Ok (of p.no_call [], us)) where
        abbrev alone : Parsed
        alone = of p.bare_factor (of p.named_factor (t ∷ of p.no_selectors [] ∷ of p.no_call [] ∷ []) ∷ [])

        uncalled : range_at d ts ≡ behind_factor alone us
        uncalled = unselected ∙ head _ _ (λ c. behind_factor (of p.bare_factor (of p.named_factor (t ∷ of p.no_selectors [] ∷ c.0 ∷ []) ∷ [])) c.1) no_call

        pub multiplied : (m : Reads) → factors_at (inside d) us ≡ made p.more_factors (m ∷ []) us → range_at d ts ≡ made p.type_name (name_at ∷ made p.multiplied_range (m ∷ terms_at (inside d) ∷ dots ∷ simple ∷ []) ∷ []) ts
        multiplied m e =
            uncalled
            ∙ head _ _ (λ g. terms_at (inside d) g.1 >>= λ h. bound (range_of (of p.unsigned (of p.term (alone ∷ g.0 ∷ []) ∷ h.0 ∷ []))) h.1) e
            ∙ made_each p.more_factors (m ∷ []) us (λ g. terms_at (inside d) g.1 >>= λ h. bound (range_of (of p.unsigned (of p.term (alone ∷ g.0 ∷ []) ∷ h.0 ∷ []))) h.1)
            ∙ sym (whole_name p.multiplied_range (m ∷ terms_at (inside d) ∷ dots ∷ simple ∷ []))

        module _ (no_factors : factors_at (inside d) us ≡ Ok (of p.no_factors [], us)) where
          abbrev behind_terms : Parsed → List Lexeme → Outcome
          behind_terms h vs = bound (range_of (of p.unsigned (of p.term (alone ∷ of p.no_factors [] ∷ []) ∷ h ∷ []))) vs

          unmultiplied : range_at d ts ≡ (terms_at (inside d) us >>= λ h. behind_terms h.0 h.1)
          unmultiplied = uncalled ∙ head _ _ (λ g. terms_at (inside d) g.1 >>= λ h. bound (range_of (of p.unsigned (of p.term (alone ∷ g.0 ∷ []) ∷ h.0 ∷ []))) h.1) no_factors

          pub added : (a : Reads) → terms_at (inside d) us ≡ made p.more_terms (a ∷ []) us → range_at d ts ≡ made p.type_name (name_at ∷ made p.added_range (a ∷ dots ∷ simple ∷ []) ∷ []) ts
          added a e =
              unmultiplied
              ∙ head _ _ (λ h. behind_terms h.0 h.1) e
              ∙ made_each p.more_terms (a ∷ []) us (λ h. behind_terms h.0 h.1)
              ∙ sym (whole_name p.added_range (a ∷ dots ∷ simple ∷ []))

          pub bounded : terms_at (inside d) us ≡ Ok (of p.no_terms [], us) → range_at d ts ≡ made p.type_name (name_at ∷ made p.named_range (dots ∷ simple ∷ []) ∷ []) ts
          bounded e =
              unmultiplied
              ∙ head _ _ (λ h. behind_terms h.0 h.1) e
              ∙ sym (whole_name p.named_range (dots ∷ simple ∷ []))

  -- ---- what begins with a control character, where that and what stands behind it are known

  module _ (ts us vs : List Lexeme) (here letter : Parsed) (caret_is : ask (q.mark k.Caret) ts ≡ Ok (here, us)) (letter_is : ask q.letter us ≡ Ok (letter, vs)) (no_sign : sign_found ts ≡ None) (begins_control : factor_at (inside d) ts ≡ made p.bare_factor (control_at ∷ []) ts) where
    abbrev character : Parsed
    character = of p.bare_factor (of p.control (here ∷ letter ∷ []) ∷ [])

    caret_first : range_at d ts ≡ behind_factor character vs
    unfolding control_at
    caret_first =
        unsigned ts no_sign
        ∙ head _ _ (λ f. behind_factor f.0 f.1) begins_control
        ∙ made_each p.bare_factor (control_at ∷ []) ts (λ f. behind_factor f.0 f.1)
        ∙ made_each p.control (ask (q.mark k.Caret) ∷ ask q.letter ∷ []) ts (λ f. behind_factor (of p.bare_factor (f.0 ∷ [])) f.1)
        ∙ head _ _ (λ a. ask q.letter a.1 >>= λ b. behind_factor (of p.bare_factor (of p.control (a.0 ∷ b.0 ∷ []) ∷ [])) b.1) caret_is
        ∙ head _ _ (λ b. behind_factor (of p.bare_factor (of p.control (here ∷ b.0 ∷ []) ∷ [])) b.1) letter_is

    whole_caret : (w : Production) (rs : List Reads) → made p.caret_type (ask (q.mark k.Caret) ∷ made p.letter_target (ask q.letter ∷ made w rs ∷ []) ∷ []) ts ≡ each rs vs (λ xs ws. Ok (of p.caret_type (here ∷ of p.letter_target (letter ∷ of w xs ∷ []) ∷ []), ws))
    whole_caret w rs =
        made_is p.caret_type (ask (q.mark k.Caret) ∷ made p.letter_target (ask q.letter ∷ made w rs ∷ []) ∷ []) ts
        ∙ head _ _ (λ a. made p.letter_target (ask q.letter ∷ made w rs ∷ []) a.1 >>= λ y. Ok (of p.caret_type (a.0 ∷ y.0 ∷ []), y.1)) caret_is
        ∙ made_each p.letter_target (ask q.letter ∷ made w rs ∷ []) us (λ y. Ok (of p.caret_type (here ∷ y.0 ∷ []), y.1))
        ∙ head _ _ (λ b. made w rs b.1 >>= λ y. Ok (of p.caret_type (here ∷ of p.letter_target (b.0 ∷ y.0 ∷ []) ∷ []), y.1)) letter_is
        ∙ made_each w rs vs (λ y. Ok (of p.caret_type (here ∷ of p.letter_target (letter ∷ y.0 ∷ []) ∷ []), y.1))

    pub control_multiplied : (m : Reads) → factors_at (inside d) vs ≡ made p.more_factors (m ∷ []) vs → range_at d ts ≡ made p.caret_type (ask (q.mark k.Caret) ∷ made p.letter_target (ask q.letter ∷ made p.multiplied_control (m ∷ terms_at (inside d) ∷ dots ∷ simple ∷ []) ∷ []) ∷ []) ts
    control_multiplied m e =
        caret_first
        ∙ head _ _ (λ g. terms_at (inside d) g.1 >>= λ h. bound (range_of (of p.unsigned (of p.term (character ∷ g.0 ∷ []) ∷ h.0 ∷ []))) h.1) e
        ∙ made_each p.more_factors (m ∷ []) vs (λ g. terms_at (inside d) g.1 >>= λ h. bound (range_of (of p.unsigned (of p.term (character ∷ g.0 ∷ []) ∷ h.0 ∷ []))) h.1)
        ∙ sym (whole_caret p.multiplied_control (m ∷ terms_at (inside d) ∷ dots ∷ simple ∷ []))

    module _ (no_factors : factors_at (inside d) vs ≡ Ok (of p.no_factors [], vs)) where
      abbrev behind_character : Parsed → List Lexeme → Outcome
      behind_character h ws = bound (range_of (of p.unsigned (of p.term (character ∷ of p.no_factors [] ∷ []) ∷ h ∷ []))) ws

      one_character : range_at d ts ≡ (terms_at (inside d) vs >>= λ h. behind_character h.0 h.1)
      one_character = caret_first ∙ head _ _ (λ g. terms_at (inside d) g.1 >>= λ h. bound (range_of (of p.unsigned (of p.term (character ∷ g.0 ∷ []) ∷ h.0 ∷ []))) h.1) no_factors

      pub control_added : (a : Reads) → terms_at (inside d) vs ≡ made p.more_terms (a ∷ []) vs → range_at d ts ≡ made p.caret_type (ask (q.mark k.Caret) ∷ made p.letter_target (ask q.letter ∷ made p.added_control (a ∷ dots ∷ simple ∷ []) ∷ []) ∷ []) ts
      control_added a e =
          one_character
          ∙ head _ _ (λ h. behind_character h.0 h.1) e
          ∙ made_each p.more_terms (a ∷ []) vs (λ h. behind_character h.0 h.1)
          ∙ sym (whole_caret p.added_control (a ∷ dots ∷ simple ∷ []))

      pub control_bounded : terms_at (inside d) vs ≡ Ok (of p.no_terms [], vs) → range_at d ts ≡ made p.caret_type (ask (q.mark k.Caret) ∷ made p.letter_target (ask q.letter ∷ made p.control_range (dots ∷ simple ∷ []) ∷ []) ∷ []) ts
      control_bounded e =
          one_character
          ∙ head _ _ (λ h. behind_character h.0 h.1) e
          ∙ sym (whole_caret p.control_range (dots ∷ simple ∷ []))
