use Rattle.std.proofs.Common.{◌≡◌, ℕ, ◌+◌, ◌*◌, ◌≤◌, ◌<◌, List, [], ◌∷◌, length}
use Rattle.pascal_grammar.specs.declared.kind.Kind.TheVariants as k
use Rattle.pascal_grammar.specs.Productions as p
use Rattle.syntax_tree.specs.declared.expression.Element.{Element}
use Rattle.syntax_tree.specs.declared.expression.Argument.{Argument}
use Rattle.syntax_tree.specs.Expressions.{Parsed, of, word, of_simple, of_term}
use Rattle.expression_parser.specs.Views.{elements_of, argument_list, with_front, named_with, indexed_with}
use Rattle.expression_parser.specs.Reading.{inside, simple_at, terms_at, term_at, factors_at, named_at, index_at, selectors_at, more_indexes_at, element_at, elements_at, argument_at, argument_list_at}
use Rattle.expression_parser.proofs.Commas.{ElementsGo, ArgumentsGo}
use Rattle.expression_parser.proofs.expressions.+expressions.Given as goal

abbrev pub decreases-next_expression : goal.decreases-next_expression
decreases-next_expression l = 16 * l.depth + 7

abbrev pub decreases-next_simple : goal.decreases-next_simple
decreases-next_simple l = 16 * l.depth + 6

abbrev pub decreases-next_term : goal.decreases-next_term
decreases-next_term l = 16 * l.depth + 5

abbrev pub decreases-next_factor : goal.decreases-next_factor
decreases-next_factor l = 16 * l.depth + 4

abbrev pub decreases-next_closed : goal.decreases-next_closed
decreases-next_closed l = 16 * l.depth + 3

abbrev pub decreases-next_set : goal.decreases-next_set
decreases-next_set l = 16 * l.depth + 2

abbrev pub decreases-next_elements : goal.decreases-next_elements
decreases-next_elements l = 16 * l.depth + 9

abbrev pub decreases-next_element : goal.decreases-next_element
decreases-next_element l = 16 * l.depth + 8

abbrev pub decreases-next_named : goal.decreases-next_named
decreases-next_named l = 16 * l.depth + 3

abbrev pub decreases-next_designator : goal.decreases-next_designator
decreases-next_designator l = 16 * l.depth + 2

abbrev pub decreases-next_selector : goal.decreases-next_selector
decreases-next_selector l = 16 * l.depth + 1

abbrev pub decreases-next_indexes : goal.decreases-next_indexes
decreases-next_indexes l = 16 * l.depth

abbrev pub decreases-next_arguments : goal.decreases-next_arguments
decreases-next_arguments l = 16 * l.depth + 2

abbrev pub decreases-next_argument_list : goal.decreases-next_argument_list
decreases-next_argument_list l = 16 * l.depth + 9

abbrev pub decreases-next_argument : goal.decreases-next_argument
decreases-next_argument l = 16 * l.depth + 8

abbrev pub invariant-next_simple-terms : goal.invariant-next_simple-terms
invariant-next_simple-terms l = record {
  gives : with_front (of_simple l.all) (terms_at (inside l.left) l.rest) ≡ simple_at (inside l.depth) l.lexemes;
  shallower : l.left ≤ l.depth;
}

abbrev pub decreases-next_simple-terms : goal.decreases-next_simple-terms
decreases-next_simple-terms l = l.left

abbrev pub invariant-next_term-factors : goal.invariant-next_term-factors
invariant-next_term-factors l = record {
  gives : with_front (of_term l.all) (factors_at (inside l.left) l.rest) ≡ term_at (inside l.depth) l.lexemes;
  shallower : l.left ≤ l.depth;
}

abbrev pub decreases-next_term-factors : goal.decreases-next_term-factors
decreases-next_term-factors l = l.left

abbrev pub invariant-next_designator-selectors : goal.invariant-next_designator-selectors
invariant-next_designator-selectors l = record {
  gives : with_front (named_with l.all) (selectors_at (inside l.left) l.rest) ≡ named_at (inside l.depth) l.lexemes;
  shallower : l.left ≤ l.depth;
}

abbrev pub decreases-next_designator-selectors : goal.decreases-next_designator-selectors
decreases-next_designator-selectors l = l.left

abbrev pub invariant-next_indexes-commas : goal.invariant-next_indexes-commas
invariant-next_indexes-commas l = record {
  goes : with_front (indexed_with l.all) (more_indexes_at (inside l.left) l.rest) ≡ with_front (named_with l.fn.owner) (index_at (inside l.depth) l.lexemes);
  closes : (more : Parsed) → indexed_with l.all (of p.last_index (word ∷ more ∷ [])) ≡ named_with l.all more;
  shallower : l.left < l.depth;
}

abbrev pub decreases-next_indexes-commas : goal.decreases-next_indexes-commas
decreases-next_indexes-commas l = l.left

abbrev pub invariant-next_elements-commas : goal.invariant-next_elements-commas
invariant-next_elements-commas l = record {
  goes : ElementsGo l.depth l.all.items.items l.rest l.lexemes;
  some : (x : Element) × (xs : List Element) × (l.all.items.items ≡ x ∷ xs);
}

abbrev pub decreases-next_elements-commas : goal.decreases-next_elements-commas
decreases-next_elements-commas l = length l.rest

abbrev pub invariant-next_argument_list-commas : goal.invariant-next_argument_list-commas
invariant-next_argument_list-commas l = record {
  goes : ArgumentsGo l.depth l.all.items.items l.rest l.lexemes;
  some : (x : Argument) × (xs : List Argument) × (l.all.items.items ≡ x ∷ xs);
}

abbrev pub decreases-next_argument_list-commas : goal.decreases-next_argument_list-commas
decreases-next_argument_list-commas l = length l.rest
