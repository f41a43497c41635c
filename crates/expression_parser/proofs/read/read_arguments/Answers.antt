use Rattle.std.proofs.Common.{◌≡◌, []}
use Rattle.pascal_grammar.specs.Productions.{no_more_arguments}
use Rattle.syntax_tree.specs.Expressions.{of}
use Rattle.expression_parser.specs.Views.{arguments_of}
use Rattle.expression_parser.proofs.Shorter.{arguments_short}
use Rattle.expression_parser.proofs.read.read_arguments.Goals as goal

pub returns-clause-shorter : goal.returns-clause-shorter
returns-clause-shorter c = arguments_short c.args.depth c.args.lexemes.now (arguments_of c.in_ok-arguments.arguments.items.items (of no_more_arguments []), c.in_ok-arguments.rest.now) c.in_ok-arguments.ensures.gives
