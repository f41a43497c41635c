-- Which production of an expression the lexeme in front chooses.
use Rattle.std.proofs.Common.{◌≡◌, ℕ, zero, suc, ◌≤◌, Bool, true, false, if◌then◌else◌, List, [], ◌∷◌, length, Option, Some, None, Result, Ok, Err, refl, sym, ap, subst, ◌∙◌, arith}
use Rattle.pascal_grammar.specs.declared.kind.Kind.{Kind}
use Rattle.pascal_grammar.specs.declared.kind.Kind.TheVariants as k
use Rattle.pascal_grammar.specs.declared.lexeme.Position.{Position}
use Rattle.pascal_grammar.specs.declared.lexeme.Lexeme.{Lexeme}
use Rattle.pascal_grammar.specs.declared.operator.Relator.{Relator}
use Rattle.pascal_grammar.specs.declared.operator.Adder.{Adder}
use Rattle.pascal_grammar.specs.declared.operator.Multiplier.{Multiplier}
use Rattle.pascal_grammar.specs.Operators.{relator_of, adder_of, multiplier_of, sign_of}
use Rattle.pascal_grammar.specs.Asked.{same, is_name, is_relator, is_adder, is_multiplier, is_sign}
use Rattle.pascal_grammar.specs.Asked as q
use Rattle.pascal_grammar.specs.Lexemes.{kind_of, front_kind}
use Rattle.pascal_grammar.specs.Lexemes as v
use Rattle.pascal_grammar.specs.Parts.{Part}
use Rattle.pascal_grammar.specs.Parts as n
use Rattle.pascal_grammar.specs.Productions.{Production}
use Rattle.pascal_grammar.specs.Productions as p
use Rattle.pascal_grammar.specs.Choices.{choose, choose_at_end, choose_by}
use Rattle.pascal_grammar.proofs.Somes.{joins}
use Rattle.pascal_grammar.proofs.Reading.{Reads, AreRead, asked, plain, begun, empty, none, left, opens, list_step}
use Rattle.ll1_grammar.specs.Grammar.{Symbol, token, part, leaf}
use Rattle.ll1_grammar.specs.Readers.{LeftOut, made, opened, ◌>>=◌}
use Rattle.syntax_tree.specs.declared.expression.PlacedSign.{PlacedSign}
use Rattle.syntax_tree.specs.Expressions.{of, word}
use Rattle.expression_parser.specs.Gives.{Inside, ask, name_at}
use Rattle.expression_parser.specs.Gives as g
use Rattle.expression_parser.specs.Reading.{begins, tail_of, placed, placed_sign, relator_at, adder_at, multiplier_at, sign_found, optional_sign_at, sign_at, field_at, index_at, dereference_at, selectors_by, selectors_at, more_indexes_by, more_indexes_at, named_at, group_at, negation_at, set_at, arguments_at, argument_end_by, argument_end_at, call_by, call_at, named_factor_at, control_at, plain_by, closed_by, closed_factor_at, wrapped, factor_by, factor_at, factors_by, factors_at, term_at, terms_by, terms_at, simple_by, simple_at, relation_by, relation_at, expression_at, element_end_by, element_at, argument_width_by, argument_at, list_from, more_elements_at, elements_by, elements_at, more_arguments_at, expression_parts, inside}
use Rattle.expression_parser.specs.declared.lookahead.FactorStart.TheVariants as factor
use Rattle.expression_parser.specs.Starting.{selector_start, factor_start, closed_start, plain_start}
use Rattle.expression_parser.proofs.Shapes.{begins_is, same_kind, word_asked, relator_asked, adder_asked, multiplier_asked, sign_asked, first_read, second_read, pair_read, operator_read}

-- the choice at a lexeme of which the kind is known
pub at_kind : (m : Part) (x : Lexeme) (k : Kind) (o : Option Production) → kind_of x ≡ k → choose_by m k ≡ o → choose m (Some (kind_of x)) ≡ o
at_kind m x k o e c = ap (choose_by m) e ∙ c

-- the choice of a part of one production
pub at_all : (m : Part) (o : Option Production) → choose_at_end m ≡ o → ((x : Kind) → choose_by m x ≡ o) → (h : Option Kind) → choose m h ≡ o
at_all m o e f None = e
at_all m o e f (Some x) = f x

pub accepted_word : (x : Lexeme) (k want : Kind) → kind_of x ≡ k → same k want ≡ true → same (kind_of x) want ≡ true
accepted_word x k want e s = ap (λ (z : Kind). same z want) e ∙ s

pub sign_some : (ts : List Lexeme) (s : PlacedSign) → sign_found ts ≡ Some s → choose n.sign (front_kind ts) ≡ Some p.sign
sign_some [] s e = absurd cc
sign_some (x ∷ xs) s e = by (kind_of x) x.position e
  where
    by : (y : Kind) (here : Position) → placed_sign (sign_of y) here ≡ Some s → choose_by n.sign y ≡ Some p.sign
    by k.Plus here e = refl
    by k.Minus here e = refl
    by y here e = absurd cc

pub sign_none : (ts : List Lexeme) → sign_found ts ≡ None → choose n.sign (front_kind ts) ≡ Some p.no_sign
sign_none [] e = refl
sign_none (x ∷ xs) e = by (kind_of x) x.position e
  where
    by : (y : Kind) (here : Position) → placed_sign (sign_of y) here ≡ None → choose_by n.sign y ≡ Some p.no_sign
    by k.Plus here e = absurd cc
    by k.Minus here e = absurd cc
    by y here e = refl

pub no_comma : (ts : List Lexeme) → begins k.Comma ts ≡ false → choose n.more_indexes (front_kind ts) ≡ Some p.last_index
no_comma [] e = refl
no_comma (x ∷ ts) e = by (kind_of x) e
  where
    by : (y : Kind) → same y k.Comma ≡ false → choose_by n.more_indexes y ≡ Some p.last_index
    by k.Comma e = absurd cc
    by y e = refl

pub no_open : (ts : List Lexeme) → begins k.Open ts ≡ false → choose n.call (front_kind ts) ≡ Some p.no_call
no_open [] e = refl
no_open (x ∷ ts) e = by (kind_of x) e
  where
    by : (y : Kind) → same y k.Open ≡ false → choose_by n.call y ≡ Some p.no_call
    by k.Open e = absurd cc
    by y e = refl

pub more_factors_by : (x : Lexeme) (ts : List Lexeme) (y : Kind) (o : Multiplier × Position) → kind_of x ≡ y → placed (multiplier_of y) x.position ≡ Some o → (choose n.factors (Some (kind_of x)) ≡ Some p.more_factors) × (is_multiplier (kind_of x) ≡ true)
more_factors_by x ts k.Times o e a = (at_kind n.factors x k.Times _ e refl, ap is_multiplier e)
more_factors_by x ts k.Div o e a = (at_kind n.factors x k.Div _ e refl, ap is_multiplier e)
more_factors_by x ts k.Mod o e a = (at_kind n.factors x k.Mod _ e refl, ap is_multiplier e)
more_factors_by x ts k.And o e a = (at_kind n.factors x k.And _ e refl, ap is_multiplier e)
more_factors_by x ts k.Shl o e a = (at_kind n.factors x k.Shl _ e refl, ap is_multiplier e)
more_factors_by x ts k.Shr o e a = (at_kind n.factors x k.Shr _ e refl, ap is_multiplier e)
more_factors_by x ts y o e a = absurd cc

pub no_factors_by : (x : Lexeme) (y : Kind) → kind_of x ≡ y → placed (multiplier_of y) x.position ≡ None → same y k.Slash ≡ false → choose n.factors (Some (kind_of x)) ≡ Some p.no_factors
no_factors_by x k.Times e a c = absurd cc
no_factors_by x k.Div e a c = absurd cc
no_factors_by x k.Mod e a c = absurd cc
no_factors_by x k.And e a c = absurd cc
no_factors_by x k.Shl e a c = absurd cc
no_factors_by x k.Shr e a c = absurd cc
no_factors_by x k.Slash e a c = absurd cc
no_factors_by x y e a c = at_kind n.factors x y _ e refl

pub no_factors : (ts : List Lexeme) → multiplier_at ts ≡ None → begins k.Slash ts ≡ false → choose n.factors (front_kind ts) ≡ Some p.no_factors
no_factors [] a c = refl
no_factors (x ∷ ts) a c = no_factors_by x (kind_of x) refl a c

pub more_terms_by : (x : Lexeme) (ts : List Lexeme) (y : Kind) (o : Adder × Position) → kind_of x ≡ y → placed (adder_of y) x.position ≡ Some o → (choose n.terms (Some (kind_of x)) ≡ Some p.more_terms) × (is_adder (kind_of x) ≡ true)
more_terms_by x ts k.Plus o e a = (at_kind n.terms x k.Plus _ e refl, ap is_adder e)
more_terms_by x ts k.Minus o e a = (at_kind n.terms x k.Minus _ e refl, ap is_adder e)
more_terms_by x ts k.Or o e a = (at_kind n.terms x k.Or _ e refl, ap is_adder e)
more_terms_by x ts k.Xor o e a = (at_kind n.terms x k.Xor _ e refl, ap is_adder e)
more_terms_by x ts y o e a = absurd cc

pub no_terms_by : (x : Lexeme) (y : Kind) → kind_of x ≡ y → placed (adder_of y) x.position ≡ None → choose n.terms (Some (kind_of x)) ≡ Some p.no_terms
no_terms_by x k.Plus e a = absurd cc
no_terms_by x k.Minus e a = absurd cc
no_terms_by x k.Or e a = absurd cc
no_terms_by x k.Xor e a = absurd cc
no_terms_by x y e a = at_kind n.terms x y _ e refl

pub no_terms : (ts : List Lexeme) → adder_at ts ≡ None → choose n.terms (front_kind ts) ≡ Some p.no_terms
no_terms [] a = refl
no_terms (x ∷ ts) a = no_terms_by x (kind_of x) refl a

pub signed_by : (x : Lexeme) (y : Kind) (s : PlacedSign) → kind_of x ≡ y → placed_sign (sign_of y) x.position ≡ Some s → choose n.simple (Some (kind_of x)) ≡ Some p.signed
signed_by x k.Plus s e a = at_kind n.simple x k.Plus _ e refl
signed_by x k.Minus s e a = at_kind n.simple x k.Minus _ e refl
signed_by x y s e a = absurd cc

pub unsigned_by : (x : Lexeme) (y : Kind) → kind_of x ≡ y → placed_sign (sign_of y) x.position ≡ None → choose n.simple (Some (kind_of x)) ≡ Some p.unsigned
unsigned_by x k.Plus e a = absurd cc
unsigned_by x k.Minus e a = absurd cc
unsigned_by x y e a = at_kind n.simple x y _ e refl

pub signed : (ts : List Lexeme) (s : PlacedSign) → sign_found ts ≡ Some s → choose n.simple (front_kind ts) ≡ Some p.signed
signed [] s e = absurd cc
signed (x ∷ ts) s e = signed_by x (kind_of x) s refl e

pub unsigned : (ts : List Lexeme) → sign_found ts ≡ None → choose n.simple (front_kind ts) ≡ Some p.unsigned
unsigned [] e = refl
unsigned (x ∷ ts) e = unsigned_by x (kind_of x) refl e

pub related_by : (x : Lexeme) (y : Kind) (o : Relator × Position) → kind_of x ≡ y → placed (relator_of y) x.position ≡ Some o → choose n.relation (Some (kind_of x)) ≡ Some p.relation
related_by x k.Equal o e a = at_kind n.relation x k.Equal _ e refl
related_by x k.Unequal o e a = at_kind n.relation x k.Unequal _ e refl
related_by x k.Less o e a = at_kind n.relation x k.Less _ e refl
related_by x k.Greater o e a = at_kind n.relation x k.Greater _ e refl
related_by x k.AtMost o e a = at_kind n.relation x k.AtMost _ e refl
related_by x k.AtLeast o e a = at_kind n.relation x k.AtLeast _ e refl
related_by x k.In o e a = at_kind n.relation x k.In _ e refl
related_by x y o e a = absurd cc

pub unrelated_by : (x : Lexeme) (y : Kind) → kind_of x ≡ y → placed (relator_of y) x.position ≡ None → choose n.relation (Some (kind_of x)) ≡ Some p.no_relation
unrelated_by x k.Equal e a = absurd cc
unrelated_by x k.Unequal e a = absurd cc
unrelated_by x k.Less e a = absurd cc
unrelated_by x k.Greater e a = absurd cc
unrelated_by x k.AtMost e a = absurd cc
unrelated_by x k.AtLeast e a = absurd cc
unrelated_by x k.In e a = absurd cc
unrelated_by x y e a = at_kind n.relation x y _ e refl

pub related : (ts : List Lexeme) (o : Relator × Position) → relator_at ts ≡ Some o → choose n.relation (front_kind ts) ≡ Some p.relation
related [] o e = absurd cc
related (x ∷ ts) o e = related_by x (kind_of x) o refl e

pub unrelated : (ts : List Lexeme) → relator_at ts ≡ None → choose n.relation (front_kind ts) ≡ Some p.no_relation
unrelated [] e = refl
unrelated (x ∷ ts) e = unrelated_by x (kind_of x) refl e

pub no_dots : (ts : List Lexeme) → begins k.Dots ts ≡ false → choose n.element_end (front_kind ts) ≡ Some p.single_element
no_dots [] e = refl
no_dots (x ∷ ts) e = by (kind_of x) e
  where
    by : (y : Kind) → same y k.Dots ≡ false → choose_by n.element_end y ≡ Some p.single_element
    by k.Dots e = absurd cc
    by y e = refl

pub dots : (ts : List Lexeme) → begins k.Dots ts ≡ true → choose n.element_end (front_kind ts) ≡ Some p.element_range
dots ts e = let i = begins_is k.Dots ts e in subst (λ (us : List Lexeme). choose n.element_end (front_kind us) ≡ Some p.element_range) (sym i.2) (at_kind n.element_end i.0 k.Dots _ i.3 refl)

pub no_colon : (ts : List Lexeme) → begins k.Colon ts ≡ false → choose n.argument_width (front_kind ts) ≡ Some p.no_width
no_colon [] e = refl
no_colon (x ∷ ts) e = by (kind_of x) e
  where
    by : (y : Kind) → same y k.Colon ≡ false → choose_by n.argument_width y ≡ Some p.no_width
    by k.Colon e = absurd cc
    by y e = refl

pub colon : (ts : List Lexeme) → begins k.Colon ts ≡ true → choose n.argument_width (front_kind ts) ≡ Some p.width
colon ts e = let i = begins_is k.Colon ts e in subst (λ (us : List Lexeme). choose n.argument_width (front_kind us) ≡ Some p.width) (sym i.2) (at_kind n.argument_width i.0 k.Colon _ i.3 refl)

pub closing : (ts : List Lexeme) (c : Bool) → begins k.CloseBracket ts ≡ c → choose n.elements (front_kind ts) ≡ (if c then Some p.no_elements else Some p.elements)
closing [] true e = absurd cc
closing [] false e = refl
closing (x ∷ ts) c e = by (kind_of x) c e
  where
    by : (y : Kind) (c : Bool) → same y k.CloseBracket ≡ c → choose_by n.elements y ≡ (if c then Some p.no_elements else Some p.elements)
    by k.CloseBracket true e = refl
    by k.CloseBracket false e = absurd cc
    by y true e = absurd cc
    by y false e = refl
