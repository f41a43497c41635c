use Rattle.std.proofs.Common.{◌≡◌}
use Rattle.pascal_grammar.specs.Parts as n
use Rattle.expression_parser.proofs.Exact.{shorter, spelled, only}
use Rattle.expression_parser.proofs.statement_parser.Sound.{whole_statement_reads}
use Rattle.expression_parser.proofs.statement_parser.read.read_statement.Goals as goal

pub returns-clause-shorter : goal.returns-clause-shorter
returns-clause-shorter c = shorter n.statement c.args.depth c.args.lexemes.now _ c.next_statement.result _ (whole_statement_reads c.args.depth c.args.lexemes.now) c.next_statement.ensures.gives

pub returns-clause-spelled : goal.returns-clause-spelled
returns-clause-spelled c = spelled n.statement c.args.depth c.args.lexemes.now _ c.next_statement.result _ (whole_statement_reads c.args.depth c.args.lexemes.now) c.next_statement.ensures.gives

pub returns-clause-only : goal.returns-clause-only
returns-clause-only c = only n.statement c.args.depth c.args.lexemes.now _ c.next_statement.result _ (whole_statement_reads c.args.depth c.args.lexemes.now) c.next_statement.ensures.gives
