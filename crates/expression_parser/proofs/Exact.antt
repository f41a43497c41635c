-- What an answer says of the grammar, where it is what a reader gives that meets the grammar.
use Rattle.std.proofs.Common.{◌≡◌, inl, inr, ℕ, zero, suc, ◌+◌, ◌≤◌, List, [], ◌∷◌, ◌++◌, length, Option, Some, None, Result, Ok, Err, IfOk, refl, sym, ap, subst, ◌∙◌, arith, length-append}
use Rattle.std.proofs.lemmas.List.{append_cancel_left}
use Rattle.pascal_grammar.specs.declared.kind.Kind.{Kind}
use Rattle.pascal_grammar.specs.declared.lexeme.Lexeme.{Lexeme}
use Rattle.pascal_grammar.specs.Lexemes.{front_kind}
use Rattle.pascal_grammar.specs.Parts.{Part}
use Rattle.pascal_grammar.specs.Productions.{Production}
use Rattle.pascal_grammar.specs.Rules.{grammar}
use Rattle.pascal_grammar.proofs.Tables.{Follow}
use Rattle.pascal_grammar.proofs.Reading.{Reads, front_is}
use Rattle.ll1_grammar.specs.Grammar.{part, Fit, head, Belongs}
use Rattle.ll1_grammar.specs.Readers.{Fault, Syntax, LeftOut, TooDeep}
use Rattle.ll1_grammar.proofs.Meeting.{one, Stopped, deep_in_most}
use Rattle.syntax_tree.specs.Expressions.{Parsed}
use Rattle.expression_parser.specs.declared.error.ReadError.{ReadError}
use Rattle.expression_parser.specs.declared.error.ReadError.TheVariants as errors
use Rattle.expression_parser.specs.Gives.{Gives, Fails}
use Rattle.expression_parser.specs.Spelled.{Spelled}

module _ (n : Part) (d : ℕ) (ts : List Lexeme) where
  spelled_at : (x : Parsed × List Lexeme) → Reads n d ts (Ok x) → Spelled n d ts x.0 x.1
  spelled_at x (text, f) = record {
    text = text;
    parts = f.parts;
    fits = subst (λ (h : Option Kind). Fit grammar (part n) x.0 text h) (front_is x.1) (f.fits (head grammar x.1) (inl refl));
    has = f.has;
    deep = f.deep;
  }

  pub no_longer : (x : Parsed × List Lexeme) → Reads n d ts (Ok x) → length x.1 ≤ length ts
  no_longer x (text, f) = let p = ap length f.parts in omega (arith, p, length-append text x.1)

  -- a tree that is spelled is the one that was read
  only_at : (x : Parsed × List Lexeme) → Reads n d ts (Ok x) → (t : Parsed) (rest : List Lexeme) → Spelled n d ts t rest → Follow n (front_kind rest) → (t, rest) ≡ x
  only_at x (text, f) t rest s w =
      let fits = subst (λ (h : Option Kind). Fit grammar (part n) t s.text h) (sym (front_is rest)) s.fits in
      let follow = subst (λ (h : Option Kind). Follow n h) (sym (front_is rest)) w in
      let same = f.only t s.text rest x.1 fits follow (sym s.parts ∙ f.parts) refl in
      let behind : rest ≡ x.1 = append_cancel_left text rest x.1 (ap (λ (l : List Lexeme). l ++ rest) (sym same.1) ∙ sym s.parts ∙ f.parts) in
      ap (λ (u : Parsed). (u, rest)) same.0 ∙ ap (λ (l : List Lexeme). (x.0, l)) behind

  -- where there is a fault none is spelled
  none_at : (f : Fault Production) → Reads n d ts (Err f) → (t : Parsed) (rest : List Lexeme) → Spelled n d ts t rest → Follow n (front_kind rest) → ⊥
  none_at f (p, after, s) t rest u w = by f s
    where
      fits : Fit grammar (part n) t u.text (head grammar rest)
      fits = subst (λ (h : Option Kind). Fit grammar (part n) t u.text h) (sym (front_is rest)) u.fits

      follow : Follow n (head grammar rest)
      follow = subst (λ (h : Option Kind). Follow n h) (sym (front_is rest)) w

      by : (f : Fault Production) → Stopped grammar Follow (one grammar Follow (part n)) d ts p after f → ⊥
      by (Syntax i) s = s.never t u.text rest after fits follow (sym u.parts ∙ s.parts) refl
      by (LeftOut q i) s = s.never t u.text rest after fits follow (sym u.parts ∙ s.parts) refl u.has
      by (TooDeep i) s = let k : suc d ≤ _ = s.never t u.text rest after fits follow (sym u.parts ∙ s.parts) refl in let most = deep_in_most grammar Follow (suc (length p)) t in let m = u.deep in absurd (omega arith)

  module _ {X : Type 0} (view : X → Parsed × List Lexeme) where
    pub spelled : (r : Result X ReadError) (read : Result (Parsed × List Lexeme) (Fault Production)) → Reads n d ts read → Gives view r read → IfOk r (λ x. Spelled n d ts (view x).0 (view x).1)
    spelled (Ok x) read m g = spelled_at (view x) (subst (λ (z : _). Reads n d ts z) g m)
    spelled (Err e) read m g = tt

    pub shorter : (r : Result X ReadError) (read : Result (Parsed × List Lexeme) (Fault Production)) → Reads n d ts read → Gives view r read → IfOk r (λ x. length (view x).1 ≤ length ts)
    shorter (Ok x) read m g = no_longer (view x) (subst (λ (z : _). Reads n d ts z) g m)
    shorter (Err e) read m g = tt

    only_fails : (e : ReadError) (read : Result (Parsed × List Lexeme) (Fault Production)) → Reads n d ts read → Fails e read → (t : Parsed) (rest : List Lexeme) → Spelled n d ts t rest → Follow n (front_kind rest) → Fails {Y = Parsed × List Lexeme} e (Ok (t, rest))
    only_fails errors.NoMemory read m g t rest s w = tt
    only_fails (errors.Syntax i) read m g t rest s w = absurd (none_at _ (subst (λ (z : _). Reads n d ts z) g m) t rest s w)
    only_fails (errors.LeftOut o i) read m g t rest s w = absurd (none_at _ (subst (λ (z : _). Reads n d ts z) g m) t rest s w)
    only_fails (errors.TooDeep i) read m g t rest s w = absurd (none_at _ (subst (λ (z : _). Reads n d ts z) g m) t rest s w)

    pub only : (r : Result X ReadError) (read : Result (Parsed × List Lexeme) (Fault Production)) → Reads n d ts read → Gives view r read → (t : Parsed) (rest : List Lexeme) → Spelled n d ts t rest → Follow n (front_kind rest) → Gives view r (Ok (t, rest))
    only (Ok x) read m g t rest s w = ap Ok (only_at (view x) (subst (λ (z : _). Reads n d ts z) g m) t rest s w)
    only (Err e) read m g t rest s w = only_fails e read m g t rest s w
