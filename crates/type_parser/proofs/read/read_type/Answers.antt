use Rattle.pascal_grammar.specs.Parts as n
use Rattle.expression_parser.proofs.Exact.{shorter, spelled, only}
use Rattle.type_parser.proofs.Sound.{type_reads}
use Rattle.type_parser.proofs.read.read_type.Goals as goal

pub returns-clause-spelled : goal.returns-clause-spelled
returns-clause-spelled c = spelled n.type c.args.depth c.args.lexemes.now _ c.next_type.result _ (type_reads c.args.depth c.args.lexemes.now) c.next_type.ensures.gives

pub returns-clause-only : goal.returns-clause-only
returns-clause-only c = only n.type c.args.depth c.args.lexemes.now _ c.next_type.result _ (type_reads c.args.depth c.args.lexemes.now) c.next_type.ensures.gives

pub returns-clause-shorter : goal.returns-clause-shorter
returns-clause-shorter c = shorter n.type c.args.depth c.args.lexemes.now _ c.next_type.result _ (type_reads c.args.depth c.args.lexemes.now) c.next_type.ensures.gives
