-- The literals in spelled expressions are literals.
use Rattle.std.proofs.Common.{ℕ, List, [], ◌∷◌, lit<}
use Rattle.std.proofs.lemmas.Nat.{xor_lt}
use Rattle.source_graph.specs.pascal_grammar.Lexemes as v
use Rattle.source_graph.specs.pascal_grammar.Productions as p
use Rattle.source_graph.specs.ll1_grammar.Grammar.{leaf}
use Rattle.source_graph.specs.syntax_tree.declared.expression.IndexMark.TheVariants as mark
use Rattle.source_graph.specs.syntax_tree.declared.expression.Expression.{Expression}
use Rattle.source_graph.specs.syntax_tree.declared.expression.Expression.TheVariants as e
use Rattle.source_graph.specs.syntax_tree.declared.expression.SimpleExpression.{SimpleExpression}
use Rattle.source_graph.specs.syntax_tree.declared.expression.SimpleExpression.TheVariants as s
use Rattle.source_graph.specs.syntax_tree.declared.expression.Term.{Term}
use Rattle.source_graph.specs.syntax_tree.declared.expression.Term.TheVariants as t
use Rattle.source_graph.specs.syntax_tree.declared.expression.Factor.{Factor, Row_of-Element, end_of-Element, more_of-Element, Row_of-Argument, end_of-Argument, more_of-Argument}
use Rattle.source_graph.specs.syntax_tree.declared.expression.Factor.TheVariants as f
use Rattle.source_graph.specs.syntax_tree.declared.expression.Element.{Element}
use Rattle.source_graph.specs.syntax_tree.declared.expression.Element.TheVariants as x
use Rattle.source_graph.specs.syntax_tree.declared.expression.Argument.{Argument}
use Rattle.source_graph.specs.syntax_tree.declared.expression.Argument.TheVariants as a
use Rattle.source_graph.specs.syntax_tree.declared.expression.Designator.{Designator}
use Rattle.source_graph.specs.syntax_tree.declared.expression.Designator.TheVariants as d
use Rattle.source_graph.specs.syntax_tree.Expressions.{Parsed, of, word, mark_at, name_of, signs, selector, of_expression, of_simple, of_term, of_factor, of_element, of_elements, more_elements, of_argument, of_arguments, more_arguments, selectors, indexes}
use Rattle.source_graph.specs.syntax_tree.expression_tree.Trees.{view_expression, view_simple, view_term, view_factor, view_designator, view_element, view_element_row, view_argument, view_argument_row}
use Rattle.units_well_formed.specs.bodies_well_formed.expressions.Literals.{IsText, IsLetter, AreLiterals, AreInListed, AreInElements, AreInOperand, AreInOperands}
use Rattle.token_provenance.proofs.sources.Full.{IsFull}

abbrev no_terms : Parsed
no_terms = of p.no_terms []

abbrev no_factors : Parsed
no_factors = of p.no_factors []

abbrev no_selectors : Parsed
no_selectors = of p.no_selectors []

-- what a name of one byte is a control character of is a byte
letter_written : (letter : List ℕ) → IsText letter → IsLetter letter
letter_written [] h = h
letter_written (a ∷ []) h = xor_lt 8 a 64 (h.each 0 0 (lit< tt)) (lit< tt)
letter_written (a ∷ b ∷ rest) h = h

-- A chain is taken apart from its end: what comes behind it is full as well.
mutual
  pub expression_written : (one : Expression) → IsFull (of_expression one) → AreLiterals (view_expression one)
  expression_written (e.Simple' q l) h = (simple_written l no_terms h.0).0
  expression_written (e.Relation' q l op here r u) h = ((simple_written l no_terms h.0).0, (simple_written u no_terms h.2.0.2.0).0)

  pub simple_written : (one : SimpleExpression) (more : Parsed) → IsFull (of_simple one more) → AreLiterals (view_simple one) × IsFull more
  simple_written (s.Term t) more h = ((term_written t no_factors h.0).0, h.2.0)
  simple_written (s.Signed sign t) more h = ((term_written t no_factors h.2.0).0, h.2.2.0)
  simple_written (s.Sum' q l op here sign t) more h =
      let k = simple_written l (of p.more_terms (of p.added (leaf (v.adder op here) ∷ signs sign ∷ of_term t no_factors ∷ more ∷ []) ∷ [])) h
      in ((k.0, (term_written t no_factors k.1.0.2.2.0).0), k.1.0.2.2.2.0)

  pub term_written : (one : Term) (more : Parsed) → IsFull (of_term one more) → AreLiterals (view_term one) × IsFull more
  term_written (t.Factor' q f) more h = (factor_written f h.0, h.2.0)
  term_written (t.Product' q l op here sign o f) more h =
      let k = term_written l (of p.more_factors (of p.multiplied (leaf (v.multiplier op here) ∷ signs sign ∷ of_factor f ∷ more ∷ []) ∷ [])) h
      in ((k.0, factor_written f k.1.0.2.2.0), k.1.0.2.2.2.0)

  pub factor_written : (one : Factor) → IsFull (of_factor one) → AreLiterals (view_factor one)
  factor_written (f.Number n here) h = h.0.0.0
  factor_written (f.Text bytes here) h = h.0.0.0
  factor_written (f.Control here letter) h = letter_written letter.name h.0.2.0
  factor_written (f.Nil here) h = tt
  factor_written (f.Negation' here q one) h = factor_written one h.0.0.2.0
  factor_written (f.Group' here q one) h = expression_written one h.2.0
  factor_written (f.Set' here shape all) h = elements_written all h.0.0.2.0
  factor_written (f.Designator one) h = (selectors_written one no_selectors h.0.2.0).0
  factor_written (f.Call' one shape all) h = ((selectors_written one no_selectors h.0.2.0).0, arguments_written all h.0.2.2.0.0)

  pub selectors_written : (one : Designator) (more : Parsed) → IsFull (selectors one more) → AreLiterals (view_designator one) × IsFull more
  selectors_written (d.Name i) more h = (tt, h)
  selectors_written (d.Field' q o here i) more h =
      let k = selectors_written o (selector p.field (mark_at here ∷ name_of i ∷ more ∷ [])) h
      in (k.0, k.1.0.2.2.0)
  selectors_written (d.Index' q o mark.Bracket here r i) more h =
      let k = selectors_written o (selector p.index (mark_at here ∷ of_expression i ∷ of p.last_index (word ∷ more ∷ []) ∷ [])) h
      in ((k.0, expression_written i k.1.0.2.0), k.1.0.2.2.0.2.0)
  selectors_written (d.Index' q o mark.Comma here r i) more h =
      let k = indexes_written o (of p.next_index (mark_at here ∷ of_expression i ∷ of p.last_index (word ∷ more ∷ []) ∷ [])) h
      in ((k.0, expression_written i k.1.2.0), k.1.2.2.0.2.0)
  selectors_written (d.Dereference' q o here) more h =
      let k = selectors_written o (selector p.dereference (mark_at here ∷ more ∷ [])) h
      in (k.0, k.1.0.2.0)

  indexes_written : (one : Designator) (more : Parsed) → IsFull (indexes one more) → AreLiterals (view_designator one) × IsFull more
  indexes_written (d.Name i) more h = absurd h
  indexes_written (d.Field' q o here i) more h = absurd h
  indexes_written (d.Index' q o mark.Bracket here r i) more h =
      let k = selectors_written o (selector p.index (mark_at here ∷ of_expression i ∷ more ∷ [])) h
      in ((k.0, expression_written i k.1.0.2.0), k.1.0.2.2.0)
  indexes_written (d.Index' q o mark.Comma here r i) more h =
      let k = indexes_written o (of p.next_index (mark_at here ∷ of_expression i ∷ more ∷ [])) h
      in ((k.0, expression_written i k.1.2.0), k.1.2.2.0)
  indexes_written (d.Dereference' q o here) more h = absurd h

  elements_written : {n : _} (all : Row_of-Element n) → IsFull (of_elements all) → AreInElements (view_element_row all)
  elements_written end_of-Element h = tt
  elements_written (more_of-Element one all) h = (element_written one h.0, more_elements_written all h.2.0)

  more_elements_written : {n : _} (all : Row_of-Element n) → IsFull (more_elements all) → AreInElements (view_element_row all)
  more_elements_written end_of-Element h = tt
  more_elements_written (more_of-Element one all) h = (element_written one h.2.0, more_elements_written all h.2.2.0)

  element_written : (one : Element) → IsFull (of_element one) → AreInListed (view_element one)
  element_written (x.Single one) h = expression_written one h.0
  element_written (x.Range low high) h = (expression_written low h.0, expression_written high h.2.0.2.0)

  arguments_written : {n : _} (all : Row_of-Argument n) → IsFull (of_arguments all) → AreInOperands (view_argument_row all)
  arguments_written end_of-Argument h = tt
  arguments_written (more_of-Argument one all) h = (argument_written one h.2.0, more_arguments_written all h.2.2.0)

  more_arguments_written : {n : _} (all : Row_of-Argument n) → IsFull (more_arguments all) → AreInOperands (view_argument_row all)
  more_arguments_written end_of-Argument h = tt
  more_arguments_written (more_of-Argument one all) h = (argument_written one h.2.0, more_arguments_written all h.2.2.0)

  pub argument_written : (one : Argument) → IsFull (of_argument one) → AreInOperand (view_argument one)
  argument_written (a.Plain one) h = expression_written one h.0
  argument_written (a.Wide one width) h = (expression_written one h.0, expression_written width h.2.0.2.0)
