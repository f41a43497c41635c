use Rattle.std.proofs.Common.{◌≡◌}
use Rattle.pascal_grammar.specs.Parts as n
use Rattle.expression_parser.specs.Reading.{inside}
use Rattle.expression_parser.proofs.Sound.{simple_reads, inside_reads}
use Rattle.expression_parser.proofs.Exact.{shorter, spelled, only}
use Rattle.expression_parser.proofs.read.read_simple.Goals as goal

pub returns-clause-shorter : goal.returns-clause-shorter
returns-clause-shorter c = shorter n.simple c.args.depth c.args.lexemes.now _ c.next_simple.result _ (simple_reads _ (inside c.args.depth) (inside_reads c.args.depth) _) c.next_simple.ensures.gives

pub returns-clause-spelled : goal.returns-clause-spelled
returns-clause-spelled c = spelled n.simple c.args.depth c.args.lexemes.now _ c.next_simple.result _ (simple_reads _ (inside c.args.depth) (inside_reads c.args.depth) _) c.next_simple.ensures.gives

pub returns-clause-only : goal.returns-clause-only
returns-clause-only c = only n.simple c.args.depth c.args.lexemes.now _ c.next_simple.result _ (simple_reads _ (inside c.args.depth) (inside_reads c.args.depth) _) c.next_simple.ensures.gives
