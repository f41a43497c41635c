use Rattle.pascal_grammar.specs.Parts as n
use Rattle.expression_parser.proofs.Exact.{spelled, only}
use Rattle.type_parser.proofs.initializer_parser.Sound.{initializer_reads}
use Rattle.type_parser.proofs.initializer_parser.read.read_initializer.Goals as goal

pub returns-clause-spelled : goal.returns-clause-spelled
returns-clause-spelled c = spelled n.initializer c.args.depth c.args.lexemes.now _ c.next_initializer.result _ (initializer_reads c.args.depth c.args.lexemes.now) c.next_initializer.ensures.gives

pub returns-clause-only : goal.returns-clause-only
returns-clause-only c = only n.initializer c.args.depth c.args.lexemes.now _ c.next_initializer.result _ (initializer_reads c.args.depth c.args.lexemes.now) c.next_initializer.ensures.gives
