-- The loops over elements and arguments, with those that were read.
use Rattle.std.proofs.Common.{ℕ, List}
use Rattle.pascal_grammar.specs.declared.kind.Kind.TheVariants as k
use Rattle.pascal_grammar.specs.declared.lexeme.Lexeme.{Lexeme}
use Rattle.pascal_grammar.specs.Productions as p
use Rattle.syntax_tree.specs.declared.expression.Element.{Element}
use Rattle.syntax_tree.specs.declared.expression.Argument.{Argument}
use Rattle.syntax_tree.specs.Expressions.{Parsed}
use Rattle.expression_parser.specs.Reading.{inside, element_at, elements_at, argument_at, argument_list_at}
use Rattle.expression_parser.specs.Views.{elements_of, argument_list}
use Rattle.expression_parser.proofs.Loop.{Goes}

abbrev pub ElementsGo : ℕ → List Element → List Lexeme → List Lexeme → Type 0
ElementsGo d all rest ts = Goes k.Comma p.no_more_elements p.next_element (element_at (inside d)) (λ (z : Parsed). elements_of all z) rest (elements_at (inside d) ts)

abbrev pub ArgumentsGo : ℕ → List Argument → List Lexeme → List Lexeme → Type 0
ArgumentsGo d all rest ts = Goes k.Comma p.no_more_arguments p.next_argument (argument_at (inside d)) (λ (z : Parsed). argument_list all z) rest (argument_list_at (inside d) ts)
