use Rattle.pascal_grammar.specs.Parts as n
use Rattle.expression_parser.proofs.Exact.{spelled, only}
use Rattle.tp_parser.proofs.heading_parser.Sound.{header_reads}
use Rattle.tp_parser.proofs.heading_parser.read.read_header.Goals as goal

pub returns-clause-spelled : goal.returns-clause-spelled
returns-clause-spelled c = spelled n.header c.args.depth c.args.lexemes.now _ c.next_header.result _ (header_reads c.args.depth c.args.lexemes.now) c.next_header.ensures.gives

pub returns-clause-only : goal.returns-clause-only
returns-clause-only c = only n.header c.args.depth c.args.lexemes.now _ c.next_header.result _ (header_reads c.args.depth c.args.lexemes.now) c.next_header.ensures.gives
