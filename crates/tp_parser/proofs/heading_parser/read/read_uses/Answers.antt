use Rattle.pascal_grammar.specs.Parts as n
use Rattle.expression_parser.proofs.Exact.{spelled, only}
use Rattle.tp_parser.proofs.heading_parser.Sound.{uses_reads}
use Rattle.tp_parser.proofs.heading_parser.read.read_uses.Goals as goal

pub returns-clause-spelled : goal.returns-clause-spelled
returns-clause-spelled c = spelled n.uses 0 c.args.lexemes.now _ c.next_uses.result _ (uses_reads 0 c.args.lexemes.now) c.next_uses.ensures.gives

pub returns-clause-only : goal.returns-clause-only
returns-clause-only c limit = only n.uses limit c.args.lexemes.now _ c.next_uses.result _ (uses_reads limit c.args.lexemes.now) c.next_uses.ensures.gives
