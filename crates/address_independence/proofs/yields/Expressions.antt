-- Expressions are read back.
use Rattle.std.proofs.Common.{◌≡◌, [], Option, Some, None, refl, sym, subst, ◌∙◌}
use Rattle.tp_check_decl.specs.pascal_grammar.Productions as p
use Rattle.tp_check_decl.specs.syntax_tree.declared.expression.PlacedSign.{PlacedSign}
use Rattle.tp_check_decl.specs.syntax_tree.declared.expression.IndexMark.TheVariants as mark
use Rattle.tp_check_decl.specs.syntax_tree.declared.expression.Expression.{Expression}
use Rattle.tp_check_decl.specs.syntax_tree.declared.expression.Expression.TheVariants as e
use Rattle.tp_check_decl.specs.syntax_tree.declared.expression.SimpleExpression.{SimpleExpression}
use Rattle.tp_check_decl.specs.syntax_tree.declared.expression.SimpleExpression.TheVariants as s
use Rattle.tp_check_decl.specs.syntax_tree.declared.expression.Term.{Term}
use Rattle.tp_check_decl.specs.syntax_tree.declared.expression.Term.TheVariants as t
use Rattle.tp_check_decl.specs.syntax_tree.declared.expression.Factor.{Factor, Row_of-Element, end_of-Element, more_of-Element, Row_of-Argument, end_of-Argument, more_of-Argument}
use Rattle.tp_check_decl.specs.syntax_tree.declared.expression.Factor.TheVariants as f
use Rattle.tp_check_decl.specs.syntax_tree.declared.expression.Element.{Element}
use Rattle.tp_check_decl.specs.syntax_tree.declared.expression.Element.TheVariants as x
use Rattle.tp_check_decl.specs.syntax_tree.declared.expression.Argument.{Argument}
use Rattle.tp_check_decl.specs.syntax_tree.declared.expression.Argument.TheVariants as a
use Rattle.tp_check_decl.specs.syntax_tree.declared.expression.Designator.{Designator}
use Rattle.tp_check_decl.specs.syntax_tree.declared.expression.Designator.TheVariants as d
use Rattle.tp_check_decl.specs.syntax_tree.Expressions.{Parsed, of, signs, of_expression, of_simple, of_term, of_factor, of_element, of_elements, more_elements, of_argument, of_arguments, more_arguments, head_of, selectors, indexes}
use Rattle.tp_check_decl.specs.syntax_tree.expression_tree.Trees.{Tree, call, signed, negated, combined, index, set, single, span, and_element, plain, wide, and_operand, of_relator, of_adder, of_multiplier, begins, view_expression, view_simple, view_term, view_factor, view_designator, view_element, view_element_row, view_argument, view_argument_row}
use Rattle.tp_check_decl.specs.ll1_grammar.whole_trees.Whole.{IsWhole}
use Rattle.address_independence.specs.yields.Reading.{name_tree, meant}

abbrev pub no_terms : Parsed
no_terms = of p.no_terms []

abbrev pub no_factors : Parsed
no_factors = of p.no_factors []

abbrev pub no_selectors : Parsed
no_selectors = of p.no_selectors []

-- ---- what comes behind a chain is a part of the whole

pub behind_simple : (one : SimpleExpression) (more : Parsed) → IsWhole (of_simple one more) → IsWhole more
behind_simple (s.Term t) more h = h.1.0
behind_simple (s.Signed sign t) more h = h.1.1.0
behind_simple (s.Sum' q l op here sign t) more h = (behind_simple l _ h).0.1.1.1.0

pub behind_term : (one : Term) (more : Parsed) → IsWhole (of_term one more) → IsWhole more
behind_term (t.Factor' q f) more h = h.1.0
behind_term (t.Product' q l op here sign o f) more h = (behind_term l _ h).0.1.1.1.0

mutual
  pub behind_selectors : (one : Designator) (more : Parsed) → IsWhole (selectors one more) → IsWhole more
  behind_selectors (d.Name i) more h = h
  behind_selectors (d.Field' q o here i) more h = (behind_selectors o _ h).0.1.1.0
  behind_selectors (d.Index' q o mark.Bracket here r i) more h = (behind_selectors o _ h).0.1.1.0.1.0
  behind_selectors (d.Index' q o mark.Comma here r i) more h = (behind_indexes o _ h).1.1.0.1.0
  behind_selectors (d.Dereference' q o here) more h = (behind_selectors o _ h).0.1.0

  pub behind_indexes : (one : Designator) (more : Parsed) → IsWhole (indexes one more) → IsWhole more
  behind_indexes (d.Name i) more h = absurd h
  behind_indexes (d.Field' q o here i) more h = absurd h
  behind_indexes (d.Index' q o mark.Bracket here r i) more h = (behind_selectors o _ h).0.1.1.0
  behind_indexes (d.Index' q o mark.Comma here r i) more h = (behind_indexes o _ h).1.1.0
  behind_indexes (d.Dereference' q o here) more h = absurd h

-- ---- signs, and the name that a designator begins with

pub signs_read : (sign : Option PlacedSign) → (meant (signs sign)).mark ≡ sign
signs_read None = refl
signs_read (Some sign) = refl

pub begins_read : (one : Designator) → (meant (head_of one)).identifier.position ≡ begins one
begins_read (d.Name i) = refl
begins_read (d.Field' q o here i) = begins_read o
begins_read (d.Index' q o by here r i) = begins_read o
begins_read (d.Dereference' q o here) = begins_read o

abbrev pub begun : Designator → Tree
begun one = name_tree (meant (head_of one)).identifier

-- ---- expressions

mutual
  pub expression_read : (one : Expression) → IsWhole (of_expression one) → (meant (of_expression one)).tree ≡ view_expression one
  expression_read (e.Simple' q l) h = simple_read l no_terms h.0
  expression_read (e.Relation' q l op here r u) h = λ i. combined here (of_relator op) (simple_read l no_terms h.0 i) (simple_read u no_terms h.1.0.1.0 i)

  pub simple_read : (one : SimpleExpression) (more : Parsed) → IsWhole (of_simple one more) → (meant (of_simple one more)).tree ≡ (meant more).chain (view_simple one)
  simple_read (s.Term t) more h = λ i. (meant more).chain (term_read t no_factors h.0 i)
  simple_read (s.Signed sign t) more h = λ i. (meant more).chain (signed (Some sign) (term_read t no_factors h.1.0 i))
  simple_read (s.Sum' q l op here sign t) more h =
      simple_read l _ h
      ∙ λ i. (meant more).chain (combined here (of_adder op) (view_simple l) (signed (signs_read sign i) (term_read t no_factors (behind_simple l _ h).0.1.1.0 i)))

  pub term_read : (one : Term) (more : Parsed) → IsWhole (of_term one more) → (meant (of_term one more)).tree ≡ (meant more).chain (view_term one)
  term_read (t.Factor' q f) more h = λ i. (meant more).chain (factor_read f h.0 i)
  term_read (t.Product' q l op here sign o f) more h =
      term_read l _ h
      ∙ λ i. (meant more).chain (combined here (of_multiplier op) (view_term l) (signed (signs_read sign i) (factor_read f (behind_term l _ h).0.1.1.0 i)))

  pub factor_read : (one : Factor) → IsWhole (of_factor one) → (meant (of_factor one)).tree ≡ view_factor one
  factor_read (f.Number n here) h = refl
  factor_read (f.Text bytes here) h = refl
  factor_read (f.Control here letter) h = refl
  factor_read (f.Nil here) h = refl
  factor_read (f.Negation' here q one) h = λ i. negated here.place (factor_read one h.0.0.1.0 i)
  factor_read (f.Group' here q one) h = expression_read one h.1.0
  factor_read (f.Set' here shape all) h = λ i. set here (elements_read all h.0.0.1.0 i)
  factor_read (f.Designator one) h = selectors_read one no_selectors h.0.1.0
  factor_read (f.Call' one shape all) h = λ i. call (begins_read one i) (selectors_read one no_selectors h.0.1.0 i) (arguments_read all h.0.1.1.0.0 i)

  pub selectors_read : (one : Designator) (more : Parsed) → IsWhole (selectors one more) → (meant (selectors one more)).chain (begun one) ≡ (meant more).chain (view_designator one)
  selectors_read (d.Name i) more h = refl
  selectors_read (d.Field' q o here i) more h = selectors_read o _ h
  selectors_read (d.Index' q o mark.Bracket here r i) more h =
      selectors_read o _ h ∙ λ j. (meant more).chain (index here (view_designator o) (expression_read i (behind_selectors o _ h).0.1.0 j))
  selectors_read (d.Index' q o mark.Comma here r i) more h =
      indexes_read o _ h ∙ λ j. (meant more).chain (index here (view_designator o) (expression_read i (behind_indexes o _ h).1.0 j))
  selectors_read (d.Dereference' q o here) more h = selectors_read o _ h

  indexes_read : (one : Designator) (more : Parsed) → IsWhole (indexes one more) → (meant (indexes one more)).chain (begun one) ≡ (meant more).chain (view_designator one)
  indexes_read (d.Name i) more h = absurd h
  indexes_read (d.Field' q o here i) more h = absurd h
  indexes_read (d.Index' q o mark.Bracket here r i) more h =
      selectors_read o _ h ∙ λ j. (meant more).chain (index here (view_designator o) (expression_read i (behind_selectors o _ h).0.1.0 j))
  indexes_read (d.Index' q o mark.Comma here r i) more h =
      indexes_read o _ h ∙ λ j. (meant more).chain (index here (view_designator o) (expression_read i (behind_indexes o _ h).1.0 j))
  indexes_read (d.Dereference' q o here) more h = absurd h

  elements_read : {n : _} (all : Row_of-Element n) → IsWhole (of_elements all) → (meant (of_elements all)).elements ≡ view_element_row all
  elements_read end_of-Element h = refl
  elements_read (more_of-Element one all) h = λ i. and_element (element_read one h.0 i) (more_elements_read all h.1.0 i)

  more_elements_read : {n : _} (all : Row_of-Element n) → IsWhole (more_elements all) → (meant (more_elements all)).elements ≡ view_element_row all
  more_elements_read end_of-Element h = refl
  more_elements_read (more_of-Element one all) h = λ i. and_element (element_read one h.1.0 i) (more_elements_read all h.1.1.0 i)

  element_read : (one : Element) → IsWhole (of_element one) → (meant (of_element one)).listed ≡ view_element one
  element_read (x.Single one) h = λ i. single (expression_read one h.0 i)
  element_read (x.Range low high) h = λ i. span (expression_read low h.0 i) (expression_read high h.1.0.1.0 i)

  pub arguments_read : {n : _} (all : Row_of-Argument n) → IsWhole (of_arguments all) → (meant (of_arguments all)).operands ≡ view_argument_row all
  arguments_read end_of-Argument h = absurd h.1.0
  arguments_read (more_of-Argument one all) h = λ i. and_operand (argument_read one h.1.0 i) (more_arguments_read all h.1.1.0 i)

  more_arguments_read : {n : _} (all : Row_of-Argument n) → IsWhole (more_arguments all) → (meant (more_arguments all)).operands ≡ view_argument_row all
  more_arguments_read end_of-Argument h = refl
  more_arguments_read (more_of-Argument one all) h = λ i. and_operand (argument_read one h.1.0 i) (more_arguments_read all h.1.1.0 i)

  pub argument_read : (one : Argument) → IsWhole (of_argument one) → (meant (of_argument one)).operand ≡ view_argument one
  argument_read (a.Plain one) h = λ i. plain (expression_read one h.0 i)
  argument_read (a.Wide one width) h = λ i. wide (expression_read one h.0 i) (expression_read width h.1.0.1.0 i)

-- ---- what is spelled alike has the same view

pub expression_alike : (x y : Expression) → IsWhole (of_expression x) → of_expression x ≡ of_expression y → view_expression x ≡ view_expression y
expression_alike x y h e = sym (expression_read x h) ∙ (λ i. (meant (e i)).tree) ∙ expression_read y (subst (λ (z : Parsed). IsWhole z) e h)
