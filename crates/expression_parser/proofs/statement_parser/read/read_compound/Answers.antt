use Rattle.std.proofs.Common.{◌≡◌}
use Rattle.pascal_grammar.specs.Parts as n
use Rattle.expression_parser.proofs.Exact.{shorter, spelled, only}
use Rattle.expression_parser.proofs.statement_parser.Sound.{whole_compound_reads}
use Rattle.expression_parser.proofs.statement_parser.read.read_compound.Goals as goal

pub returns-clause-shorter : goal.returns-clause-shorter
returns-clause-shorter c = shorter n.compound c.args.depth c.args.lexemes.now _ c.whole_compound.result _ (whole_compound_reads c.args.depth c.args.lexemes.now) c.whole_compound.ensures.gives

pub returns-clause-spelled : goal.returns-clause-spelled
returns-clause-spelled c = spelled n.compound c.args.depth c.args.lexemes.now _ c.whole_compound.result _ (whole_compound_reads c.args.depth c.args.lexemes.now) c.whole_compound.ensures.gives

pub returns-clause-only : goal.returns-clause-only
returns-clause-only c = only n.compound c.args.depth c.args.lexemes.now _ c.whole_compound.result _ (whole_compound_reads c.args.depth c.args.lexemes.now) c.whole_compound.ensures.gives
