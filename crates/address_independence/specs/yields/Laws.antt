-- What is spelled alike is alike in all that the rules of typing look at.
use Rattle.std.specs.Prelude.{◌≡◌}
use Rattle.tp_check_decl.specs.syntax_tree.declared.expression.Expression.{Expression}
use Rattle.tp_check_decl.specs.syntax_tree.declared.statement.Statement.{Statement}
use Rattle.tp_check_decl.specs.syntax_tree.Expressions.{of_expression}
use Rattle.tp_check_decl.specs.syntax_tree.Statements.{of_statement}
use Rattle.tp_check_decl.specs.syntax_tree.declared.source_tree.source.Tree.{Tree}
use Rattle.tp_check_decl.specs.syntax_tree.source_tree.Sources.{of_tree}
use Rattle.tp_check_decl.specs.syntax_tree.expression_tree.Trees.{view_expression}
use Rattle.tp_check_decl.specs.syntax_tree.statement_tree.Trees.{view_statement}
use Rattle.tp_check_decl.specs.ll1_grammar.whole_trees.Whole.{IsWhole}
use Rattle.address_independence.specs.yields.Reading.{meant}
use Rattle.address_independence.specs.yields.Trees.{source_in}

abbrev pub ExpressionsAreAlike : Type 0
ExpressionsAreAlike = (x y : Expression) → IsWhole (of_expression x) → of_expression x ≡ of_expression y → view_expression x ≡ view_expression y

abbrev pub StatementsAreAlike : Type 0
StatementsAreAlike = (x y : Statement) → IsWhole (of_statement x) → of_statement x ≡ of_statement y → view_statement x ≡ view_statement y

abbrev pub SourcesAreAlike : Type 0
SourcesAreAlike = (x y : Tree) → IsWhole (of_tree x) → of_tree x ≡ of_tree y → source_in x ≡ source_in y

-- the tree of a source that has all its parts says what is written in it
abbrev pub SourcesAreRead : Type 0
SourcesAreRead = (one : Tree) → IsWhole (of_tree one) → (meant (of_tree one)).source ≡ source_in one
