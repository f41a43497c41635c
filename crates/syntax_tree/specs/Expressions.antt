-- What the grammar makes of an expression.
use Rattle.std.specs.Prelude.{ℕ, List, [], ◌∷◌, Option, Some, None}
use Rattle.pascal_grammar.specs.declared.lexeme.Position.{Position}
use Rattle.pascal_grammar.specs.Lexemes.{Kept}
use Rattle.pascal_grammar.specs.Lexemes as v
use Rattle.pascal_grammar.specs.Productions.{Production}
use Rattle.pascal_grammar.specs.Productions as p
use Rattle.ll1_grammar.specs.Grammar.{Tree, nil, pair, leaf, node}
use Rattle.syntax_tree.specs.declared.identifier.Identifier.{Identifier}
use Rattle.syntax_tree.specs.declared.expression.PlacedSign.{PlacedSign}
use Rattle.syntax_tree.specs.declared.expression.IndexMark.{IndexMark}
use Rattle.syntax_tree.specs.declared.expression.IndexMark.TheVariants as mark
use Rattle.syntax_tree.specs.declared.expression.Expression.{Expression}
use Rattle.syntax_tree.specs.declared.expression.Expression.TheVariants as e
use Rattle.syntax_tree.specs.declared.expression.SimpleExpression.{SimpleExpression}
use Rattle.syntax_tree.specs.declared.expression.SimpleExpression.TheVariants as s
use Rattle.syntax_tree.specs.declared.expression.Term.{Term}
use Rattle.syntax_tree.specs.declared.expression.Term.TheVariants as t
use Rattle.syntax_tree.specs.declared.expression.Factor.{Factor, Row_of-Element, end_of-Element, more_of-Element, Row_of-Argument, end_of-Argument, more_of-Argument}
use Rattle.syntax_tree.specs.declared.expression.Factor.TheVariants as f
use Rattle.syntax_tree.specs.declared.expression.Element.{Element}
use Rattle.syntax_tree.specs.declared.expression.Element.TheVariants as x
use Rattle.syntax_tree.specs.declared.expression.Argument.{Argument}
use Rattle.syntax_tree.specs.declared.expression.Argument.TheVariants as a
use Rattle.syntax_tree.specs.declared.expression.Designator.{Designator}
use Rattle.syntax_tree.specs.declared.expression.Designator.TheVariants as d

-- a tree of the grammar
abbrev pub Parsed : Type 0
Parsed = Tree Kept Production

-- a production and its parts in order
abbrev pub row : List Parsed → Parsed
row [] = nil
row (t ∷ ts) = pair t (row ts)

abbrev pub of : Production → List Parsed → Parsed
of q ts = node q (row ts)

-- a lexeme of which nothing is kept, and one of which the position is
abbrev pub word : Parsed
word = leaf v.nothing

abbrev pub mark_at : Position → Parsed
mark_at here = leaf (v.position here)

abbrev pub name_of : Identifier → Parsed
name_of i = leaf (v.named i.name i.position)

abbrev pub signs : Option PlacedSign → Parsed
signs (Some s) = of p.sign (leaf (v.sign s.sign s.position) ∷ [])
signs None = of p.no_sign []

abbrev pub closed : Production → List Parsed → Parsed
closed q ts = of p.bare_factor (of p.closed_factor (of q ts ∷ []) ∷ [])

-- a selector, and what comes behind it
abbrev pub selector : Production → List Parsed → Parsed
selector q ts = of p.more_selectors (of q ts ∷ [])

-- A chain to the left is taken apart from its end: the last argument is what comes behind it.
abbrev mutual
  pub of_expression : Expression → Parsed
  of_expression (e.Simple' q s) = of p.expression (of_simple s (of p.no_terms []) ∷ of p.no_relation [] ∷ [])
  of_expression (e.Relation' q s op here r u) = of p.expression (of_simple s (of p.no_terms []) ∷ of p.relation (leaf (v.relator op here) ∷ of_simple u (of p.no_terms []) ∷ []) ∷ [])

  pub of_simple : SimpleExpression → Parsed → Parsed
  of_simple (s.Term t) more = of p.unsigned (of_term t (of p.no_factors []) ∷ more ∷ [])
  of_simple (s.Signed sign t) more = of p.signed (leaf (v.sign sign.sign sign.position) ∷ of_term t (of p.no_factors []) ∷ more ∷ [])
  of_simple (s.Sum' q l op here sign t) more = of_simple l (of p.more_terms (of p.added (leaf (v.adder op here) ∷ signs sign ∷ of_term t (of p.no_factors []) ∷ more ∷ []) ∷ []))

  pub of_term : Term → Parsed → Parsed
  of_term (t.Factor' q f) more = of p.term (of_factor f ∷ more ∷ [])
  of_term (t.Product' q l op here sign o f) more = of_term l (of p.more_factors (of p.multiplied (leaf (v.multiplier op here) ∷ signs sign ∷ of_factor f ∷ more ∷ []) ∷ []))

  pub of_factor : Factor → Parsed
  of_factor (f.Number n here) = closed p.number (leaf (v.number n here) ∷ [])
  of_factor (f.Text bytes here) = closed p.text (leaf (v.text bytes here) ∷ [])
  of_factor (f.Control here letter) = of p.bare_factor (of p.control (mark_at here ∷ name_of letter ∷ []) ∷ [])
  of_factor (f.Nil here) = closed p.nil (mark_at here ∷ [])
  of_factor (f.Negation' here q f) = closed p.negation (mark_at here ∷ of_factor f ∷ [])
  of_factor (f.Group' here q i) = of p.group_factor (mark_at here ∷ of_expression i ∷ word ∷ [])
  of_factor (f.Set' here shape all) = closed p.set_constructor (mark_at here ∷ of_elements all ∷ word ∷ [])
  of_factor (f.Designator d) = of p.bare_factor (of p.named_factor (head_of d ∷ selectors d (of p.no_selectors []) ∷ of p.no_call [] ∷ []) ∷ [])
  of_factor (f.Call' d shape all) = of p.bare_factor (of p.named_factor (head_of d ∷ selectors d (of p.no_selectors []) ∷ of p.call (of_arguments all ∷ of p.argument_end [] ∷ []) ∷ []) ∷ [])

  pub of_element : Element → Parsed
  of_element (x.Single i) = of p.element (of_expression i ∷ of p.single_element [] ∷ [])
  of_element (x.Range i j) = of p.element (of_expression i ∷ of p.element_range (word ∷ of_expression j ∷ []) ∷ [])

  pub of_elements : {n : _} → Row_of-Element n → Parsed
  of_elements end_of-Element = of p.no_elements []
  of_elements (more_of-Element i all) = of p.elements (of_element i ∷ more_elements all ∷ [])

  pub more_elements : {n : _} → Row_of-Element n → Parsed
  more_elements end_of-Element = of p.no_more_elements []
  more_elements (more_of-Element i all) = of p.next_element (word ∷ of_element i ∷ more_elements all ∷ [])

  pub of_argument : Argument → Parsed
  of_argument (a.Plain i) = of p.argument (of_expression i ∷ of p.no_width [] ∷ [])
  of_argument (a.Wide i j) = of p.argument (of_expression i ∷ of p.width (word ∷ of_expression j ∷ []) ∷ [])

  -- no arguments at all are spelled by nothing
  pub of_arguments : {n : _} → Row_of-Argument n → Parsed
  of_arguments end_of-Argument = of p.arguments (word ∷ nil ∷ nil ∷ word ∷ [])
  of_arguments (more_of-Argument i all) = of p.arguments (word ∷ of_argument i ∷ more_arguments all ∷ word ∷ [])

  pub more_arguments : {n : _} → Row_of-Argument n → Parsed
  more_arguments end_of-Argument = of p.no_more_arguments []
  more_arguments (more_of-Argument i all) = of p.next_argument (word ∷ of_argument i ∷ more_arguments all ∷ [])

  -- the name that a designator begins with, and its selectors
  pub head_of : Designator → Parsed
  head_of (d.Name i) = name_of i
  head_of (d.Field' q o here i) = head_of o
  head_of (d.Index' q o by here r i) = head_of o
  head_of (d.Dereference' q o here) = head_of o

  pub selectors : Designator → Parsed → Parsed
  selectors (d.Name i) more = more
  selectors (d.Field' q o here i) more = selectors o (selector p.field (mark_at here ∷ name_of i ∷ more ∷ []))
  selectors (d.Index' q o mark.Bracket here r i) more = selectors o (selector p.index (mark_at here ∷ of_expression i ∷ of p.last_index (word ∷ more ∷ []) ∷ []))
  selectors (d.Index' q o mark.Comma here r i) more = indexes o (of p.next_index (mark_at here ∷ of_expression i ∷ of p.last_index (word ∷ more ∷ []) ∷ []))
  selectors (d.Dereference' q o here) more = selectors o (selector p.dereference (mark_at here ∷ more ∷ []))

  -- the same, of one whose last index goes on with more indexes: another is spelled by nothing
  pub indexes : Designator → Parsed → Parsed
  indexes (d.Index' q o mark.Bracket here r i) more = selectors o (selector p.index (mark_at here ∷ of_expression i ∷ more ∷ []))
  indexes (d.Index' q o mark.Comma here r i) more = indexes o (of p.next_index (mark_at here ∷ of_expression i ∷ more ∷ []))
  indexes o more = nil
