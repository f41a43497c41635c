use Rattle.pascal_grammar.specs.Parts as n
use Rattle.expression_parser.proofs.Exact.{spelled, only}
use Rattle.type_parser.proofs.parameter_parser.Sound.{result_reads}
use Rattle.type_parser.proofs.parameter_parser.read.read_result.Goals as goal

pub returns-clause-spelled : goal.returns-clause-spelled
returns-clause-spelled c = spelled n.result 0 c.args.lexemes.now _ c.next_result.result _ (result_reads 0 c.args.lexemes.now) c.next_result.ensures.gives

pub returns-clause-only : goal.returns-clause-only
returns-clause-only c limit = only n.result limit c.args.lexemes.now _ c.next_result.result _ (result_reads limit c.args.lexemes.now) c.next_result.ensures.gives
