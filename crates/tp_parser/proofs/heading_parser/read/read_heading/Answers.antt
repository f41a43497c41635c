use Rattle.pascal_grammar.specs.Parts as n
use Rattle.expression_parser.proofs.Exact.{spelled, only}
use Rattle.tp_parser.proofs.heading_parser.Sound.{heading_reads}
use Rattle.tp_parser.proofs.heading_parser.read.read_heading.Goals as goal

pub returns-clause-spelled : goal.returns-clause-spelled
returns-clause-spelled c = spelled n.program_head c.args.depth c.args.lexemes.now _ c.next_heading.result _ (heading_reads c.args.depth c.args.lexemes.now) c.next_heading.ensures.gives

pub returns-clause-only : goal.returns-clause-only
returns-clause-only c = only n.program_head c.args.depth c.args.lexemes.now _ c.next_heading.result _ (heading_reads c.args.depth c.args.lexemes.now) c.next_heading.ensures.gives
