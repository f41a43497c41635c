use Rattle.pascal_grammar.specs.Parts as n
use Rattle.expression_parser.proofs.Exact.{spelled, only}
use Rattle.tp_parser.proofs.declaration_parser.Sound.{all_declarations_read}
use Rattle.tp_parser.proofs.declaration_parser.read.read_declarations.Goals as goal

pub returns-clause-spelled : goal.returns-clause-spelled
returns-clause-spelled c = spelled n.declarations c.args.depth c.args.lexemes.now _ c.next_declarations.result _ (all_declarations_read c.args.depth c.args.lexemes.now) c.next_declarations.ensures.gives

pub returns-clause-only : goal.returns-clause-only
returns-clause-only c = only n.declarations c.args.depth c.args.lexemes.now _ c.next_declarations.result _ (all_declarations_read c.args.depth c.args.lexemes.now) c.next_declarations.ensures.gives
