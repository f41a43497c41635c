-- What the grammar makes of simple expressions, by the first of their factors.
use Rattle.std.proofs.Common.{[], ◌∷◌}
use Rattle.tp_check_decl.specs.pascal_grammar.Lexemes.{Kept}
use Rattle.tp_check_decl.specs.pascal_grammar.Productions.{Production}
use Rattle.tp_check_decl.specs.pascal_grammar.Productions as p
use Rattle.tp_check_decl.specs.ll1_grammar.Grammar.{nil, leaf}
use Rattle.tp_check_decl.specs.syntax_tree.declared.expression.IndexMark.TheVariants as mark
use Rattle.tp_check_decl.specs.syntax_tree.declared.expression.SimpleExpression.{SimpleExpression}
use Rattle.tp_check_decl.specs.syntax_tree.declared.expression.SimpleExpression.TheVariants as s
use Rattle.tp_check_decl.specs.syntax_tree.declared.expression.Term.{Term}
use Rattle.tp_check_decl.specs.syntax_tree.declared.expression.Term.TheVariants as t
use Rattle.tp_check_decl.specs.syntax_tree.declared.expression.Factor.{Factor}
use Rattle.tp_check_decl.specs.syntax_tree.declared.expression.Factor.TheVariants as f
use Rattle.tp_check_decl.specs.syntax_tree.declared.expression.Designator.{Designator}
use Rattle.tp_check_decl.specs.syntax_tree.declared.expression.Designator.TheVariants as d
use Rattle.tp_check_decl.specs.syntax_tree.Expressions.{Parsed, of, of_simple, of_term, of_factor, selectors, indexes}
use Rattle.address_independence.proofs.yields.Expressions.{no_terms, no_factors, no_selectors}

-- a part that may be empty
pub data IsOption (none some : Production) : Parsed → Type 0 where
  absent : IsOption none some (of none [])
  present : (one : Parsed) → IsOption none some (of some (one ∷ []))

-- what stands behind a name; where an index stands behind no index, nothing is spelled
pub data IsSelectors : Parsed → Type 0 where
  lost : IsSelectors nil
  kept : (one : Parsed) → IsOption p.no_selectors p.more_selectors one → IsSelectors one

pub data IsCall : Parsed → Type 0 where
  uncalled : IsCall (of p.no_call [])
  called : (arguments end : Parsed) → IsCall (of p.call (arguments ∷ end ∷ []))

pub data IsFactor : Parsed → Type 0 where
  group : (left inner right : Parsed) → IsFactor (of p.group_factor (left ∷ inner ∷ right ∷ []))
  closed : (one : Parsed) → IsFactor (of p.bare_factor (of p.closed_factor (one ∷ []) ∷ []))
  control : (here letter : Parsed) → IsFactor (of p.bare_factor (of p.control (here ∷ letter ∷ []) ∷ []))
  named : (head one call : Parsed) → IsSelectors one → IsCall call → IsFactor (of p.bare_factor (of p.named_factor (head ∷ one ∷ call ∷ []) ∷ []))

pub data IsSimple : Parsed → Type 0 where
  unsigned : (one factors terms : Parsed) → IsFactor one → IsOption p.no_factors p.more_factors factors → IsOption p.no_terms p.more_terms terms
      → IsSimple (of p.unsigned (of p.term (one ∷ factors ∷ []) ∷ terms ∷ []))
  signed : (sign : Kept) (term terms : Parsed) → IsSimple (of p.signed (leaf sign ∷ term ∷ terms ∷ []))

-- ---- what the grammar makes has these shapes

mutual
  are_selectors : (one : Designator) (more : Parsed) → IsOption p.no_selectors p.more_selectors more → IsSelectors (selectors one more)
  are_selectors (d.Name i) more h = kept more h
  are_selectors (d.Field' q o here i) more h = are_selectors o _ (present _)
  are_selectors (d.Index' q o mark.Bracket here r i) more h = are_selectors o _ (present _)
  are_selectors (d.Index' q o mark.Comma here r i) more h = are_indexes o _
  are_selectors (d.Dereference' q o here) more h = are_selectors o _ (present _)

  are_indexes : (one : Designator) (more : Parsed) → IsSelectors (indexes one more)
  are_indexes (d.Name i) more = lost
  are_indexes (d.Field' q o here i) more = lost
  are_indexes (d.Index' q o mark.Bracket here r i) more = are_selectors o _ (present _)
  are_indexes (d.Index' q o mark.Comma here r i) more = are_indexes o _
  are_indexes (d.Dereference' q o here) more = lost

is_factor : (one : Factor) → IsFactor (of_factor one)
is_factor (f.Number n here) = closed _
is_factor (f.Text bytes here) = closed _
is_factor (f.Control here letter) = control _ _
is_factor (f.Nil here) = closed _
is_factor (f.Negation' here q one) = closed _
is_factor (f.Group' here q one) = group _ _ _
is_factor (f.Set' here shape all) = closed _
is_factor (f.Designator one) = named _ _ _ (are_selectors one no_selectors absent) uncalled
is_factor (f.Call' one shape all) = named _ _ _ (are_selectors one no_selectors absent) (called _ _)

is_term : (one : Term) (more terms : Parsed) → IsOption p.no_factors p.more_factors more → IsOption p.no_terms p.more_terms terms → IsSimple (of p.unsigned (of_term one more ∷ terms ∷ []))
is_term (t.Factor' q f) more terms h k = unsigned _ _ _ (is_factor f) h k
is_term (t.Product' q l op here sign o f) more terms h k = is_term l _ terms (present _) k

simple_with : (one : SimpleExpression) (more : Parsed) → IsOption p.no_terms p.more_terms more → IsSimple (of_simple one more)
simple_with (s.Term t) more h = is_term t no_factors more absent h
simple_with (s.Signed sign t) more h = signed _ _ _
simple_with (s.Sum' q l op here sign t) more h = simple_with l _ (present _)

pub is_simple : (one : SimpleExpression) → IsSimple (of_simple one no_terms)
is_simple one = simple_with one no_terms absent
