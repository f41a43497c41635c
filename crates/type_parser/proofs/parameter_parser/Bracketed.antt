-- A list between brackets, and parameters in parentheses.
use Rattle.std.proofs.Common.{◌≡◌, ℕ, suc, Bool, true, false, cond, List, [], ◌∷◌, Some, None, Result, Ok, Err, refl, sym, ap, subst, ◌∙◌}
use Rattle.pascal_grammar.specs.declared.kind.Kind.TheVariants as k
use Rattle.pascal_grammar.specs.declared.lexeme.Lexeme.{Lexeme}
use Rattle.pascal_grammar.specs.Asked.{same}
use Rattle.pascal_grammar.specs.Asked as q
use Rattle.pascal_grammar.specs.Lexemes.{kind_of}
use Rattle.pascal_grammar.specs.Lexemes as v
use Rattle.pascal_grammar.specs.Productions.{Production}
use Rattle.pascal_grammar.specs.Productions as p
use Rattle.ll1_grammar.specs.Grammar.{nil}
use Rattle.ll1_grammar.specs.Readers.{Fault, ◌>>=◌, made, kept_by}
use Rattle.syntax_tree.specs.Expressions.{Parsed, of, word}
use Rattle.expression_parser.specs.declared.error.ReadError.{ReadError}
use Rattle.expression_parser.specs.Gives.{Fails, Reads, ask}
use Rattle.expression_parser.specs.Reading.{begins, inside}
use Rattle.expression_parser.proofs.Fronts.{End, Outcome, alone, behind, made_of, fails_bind}
use Rattle.syntax_tree.specs.declared.type_tree.parameter.ParameterGroup.{ParameterGroup}
use Rattle.syntax_tree.specs.type_tree.Parameters.{group_list, parameters_of}
use Rattle.type_parser.specs.parameter_parser.Reading.{identifiers_at, parameter_type_at, group_type_at, group_by, group_at, more_groups_at, group_list_at, parameters_by, parameters_at}
use Rattle.type_parser.proofs.parameter_parser.Results.{made_node}

module _ (w : Production) (close first others : Reads) where
  abbrev both : Parsed → End → Result ((Parsed × Parsed) × List Lexeme) (Fault Production)
  both x u = Ok ((x, u.0), u.1)

  abbrev ended : Parsed → Parsed → End → Outcome
  ended x y u = Ok (of w (word ∷ x ∷ y ∷ u.0 ∷ []), u.1)

  abbrev pub closes : (Parsed × Parsed) × List Lexeme → Outcome
  closes l = close l.1 >>= ended l.0.0 l.0.1

  abbrev pub listed : List Lexeme → Result ((Parsed × Parsed) × List Lexeme) (Fault Production)
  listed us = first us >>= λ x. others x.1 >>= both x.0

  close_by : (x y : Parsed) (r : Outcome) → ((((r >>= alone) >>= behind y) >>= behind x) >>= behind word) >>= made_of w ≡ (r >>= ended x y)
  close_by x y (Ok u) = refl
  close_by x y (Err e) = refl

  others_by : (x : Parsed) (r : Outcome) → (((r >>= λ y. (close y.1 >>= alone) >>= behind y.0) >>= behind x) >>= behind word) >>= made_of w ≡ ((r >>= both x) >>= closes)
  others_by x (Ok y) = close_by x y.0 (close y.1)
  others_by x (Err e) = refl

  items_by : (r : Outcome) → ((r >>= λ x. (others x.1 >>= λ y. (close y.1 >>= alone) >>= behind y.0) >>= behind x.0) >>= behind word) >>= made_of w ≡ ((r >>= λ x. others x.1 >>= both x.0) >>= closes)
  items_by (Ok x) = others_by x.0 (others x.1)
  items_by (Err e) = refl

  -- by the list inside
  pub bracketed : (opening : Reads) (ts us : List Lexeme) → opening ts ≡ Ok (word, us) → made w (opening ∷ first ∷ others ∷ close ∷ []) ts ≡ (listed us >>= closes)
  bracketed opening ts us a = rw a (items_by (first us))

  pub bracketed_stop : (r : ReadError) (us : List Lexeme) → Fails r (listed us) → Fails r (listed us >>= closes)
  bracketed_stop r us h = fails_bind r (listed us) closes h

  pub bracketed_open : (r : ReadError) (us vs : List Lexeme) (x : Parsed × Parsed) → listed us ≡ Ok (x, vs) → Fails r (close vs) → Fails r (listed us >>= closes)
  bracketed_open r us vs x b h = let ends : Fails r (closes (x, vs)) = fails_bind r (close vs) (ended x.0 x.1) h in rw b ends

  pub bracketed_end : (us vs ws : List Lexeme) (x : Parsed × Parsed) → listed us ≡ Ok (x, vs) → close vs ≡ Ok (word, ws) → (listed us >>= closes) ≡ Ok (of w (word ∷ x.0 ∷ x.1 ∷ word ∷ []), ws)
  bracketed_end us vs ws x b c = let ends : closes (x, vs) ≡ Ok (of w (word ∷ x.0 ∷ x.1 ∷ word ∷ []), ws) = rw c refl in rw b ends

-- ---- parameters

-- the word that was read stands in front
pub opens : (ts us : List Lexeme) → ask (q.word k.Open) ts ≡ Ok (word, us) → begins k.Open ts ≡ true
opens [] us e = absurd cc
opens (x ∷ ts) us e = by (same (kind_of x) k.Open) e
  where
    by : (b : Bool) → kept_by {P = Production} (cond b (Some v.nothing) None) x ts ≡ Ok (word, us) → b ≡ true
    by true e = refl
    by false e = absurd cc

abbrev closing : (Parsed × Parsed) × List Lexeme → Outcome
closing = closes p.parameters (ask (q.word k.Close)) group_at more_groups_at

parameters_read : (d e : ℕ) (ts us : List Lexeme) → e ≡ suc d → begins k.Open ts ≡ true → ask (q.word k.Open) ts ≡ Ok (word, us) → parameters_at (inside e) ts ≡ (group_list_at us >>= closing)
unfolding parameters_by group_list_at inside
parameters_read d e ts us l b a = rw (l, b) (bracketed p.parameters (ask (q.word k.Close)) group_at more_groups_at (ask (q.word k.Open)) ts us a)

pub parameters_stop : (r : ReadError) (d e : ℕ) (ts us : List Lexeme) → e ≡ suc d → begins k.Open ts ≡ true → ask (q.word k.Open) ts ≡ Ok (word, us) → Fails r (group_list_at us) → Fails r (parameters_at (inside e) ts)
unfolding group_list_at
parameters_stop r d e ts us l b a h = subst (λ (z : Outcome). Fails r z) (sym (parameters_read d e ts us l b a)) (bracketed_stop p.parameters (ask (q.word k.Close)) group_at more_groups_at r us h)

pub parameters_open : (r : ReadError) (d e : ℕ) (ts us vs : List Lexeme) (x : Parsed × Parsed) → e ≡ suc d → begins k.Open ts ≡ true → ask (q.word k.Open) ts ≡ Ok (word, us) → group_list_at us ≡ Ok (x, vs) → Fails r (ask (q.word k.Close) vs) → Fails r (parameters_at (inside e) ts)
unfolding group_list_at
parameters_open r d e ts us vs x l b a c h = subst (λ (z : Outcome). Fails r z) (sym (parameters_read d e ts us l b a)) (bracketed_open p.parameters (ask (q.word k.Close)) group_at more_groups_at r us vs x c h)

abbrev pair_of : Parsed × Parsed → List Lexeme → Result ((Parsed × Parsed) × List Lexeme) (Fault Production)
pair_of x vs = Ok (x, vs)

group_node : (b : Bool) (ts : List Lexeme) (x : End) → group_by b ts ≡ Ok x → x.0 ≡ nil → ⊥
unfolding group_by
group_node true ts x e = made_node p.variable_group (ask (q.mark k.Var) ∷ identifiers_at ∷ group_type_at ∷ []) ts x e
group_node false ts x e = made_node p.value_group (identifiers_at ∷ ask (q.word k.Colon) ∷ parameter_type_at ∷ []) ts x e

first_again : (y : End) (r : Outcome) (x : Parsed × Parsed) (vs : List Lexeme) → (r >>= λ z. pair_of (y.0, z.0) z.1) ≡ pair_of x vs → y.0 ≡ x.0
first_again y (Ok z) x vs e = let i : ((y.0, z.0), z.1) ≡ (x, vs) = cc in ap (λ (w : (Parsed × Parsed) × List Lexeme). w.0.0) i
first_again y (Err f) x vs e = absurd cc

first_read : (r : Outcome) (others : Reads) (x : Parsed × Parsed) (vs : List Lexeme) → (r >>= λ y. others y.1 >>= λ z. pair_of (y.0, z.0) z.1) ≡ pair_of x vs → (y : End) × (r ≡ Ok y) × (y.0 ≡ x.0)
first_read (Ok y) others x vs e = (y, refl, first_again y (others y.1) x vs e)
first_read (Err f) others x vs e = absurd cc

-- there is a first group
some_group : (ts vs : List Lexeme) (x : Parsed × Parsed) → group_list_at ts ≡ Ok (x, vs) → x.0 ≡ nil → ⊥
unfolding group_list_at
some_group ts vs x e i = let a = first_read (group_at ts) more_groups_at x vs e in group_node (begins k.Var ts) ts a.0 a.1 (a.2 ∙ i)

groups_are : (all : List ParameterGroup) (ts vs : List Lexeme) → group_list_at ts ≡ Ok (group_list all (of p.no_groups []), vs) → of p.parameters (word ∷ (group_list all (of p.no_groups [])).0 ∷ (group_list all (of p.no_groups [])).1 ∷ word ∷ []) ≡ parameters_of all
groups_are [] ts vs e = absurd (some_group ts vs (nil, nil) e refl)
groups_are (x ∷ all) ts vs e = refl

pub parameters_end : (d e : ℕ) (ts us vs ws : List Lexeme) (all : List ParameterGroup) → e ≡ suc d → begins k.Open ts ≡ true → ask (q.word k.Open) ts ≡ Ok (word, us) → group_list_at us ≡ Ok (group_list all (of p.no_groups []), vs) → ask (q.word k.Close) vs ≡ Ok (word, ws) → parameters_at (inside e) ts ≡ Ok (parameters_of all, ws)
unfolding group_list_at
parameters_end d e ts us vs ws all l b a c h =
    let x = group_list all (of p.no_groups []) in
    parameters_read d e ts us l b a ∙ bracketed_end p.parameters (ask (q.word k.Close)) group_at more_groups_at us vs ws x c h ∙ ap (λ (z : Parsed). Ok (z, ws)) (groups_are all us vs c)
