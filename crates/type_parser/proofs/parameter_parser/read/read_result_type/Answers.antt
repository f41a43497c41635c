use Rattle.pascal_grammar.specs.Parts as n
use Rattle.expression_parser.proofs.Exact.{spelled, only}
use Rattle.type_parser.proofs.parameter_parser.Sound.{result_type_reads}
use Rattle.type_parser.proofs.parameter_parser.read.read_result_type.Goals as goal

pub returns-clause-spelled : goal.returns-clause-spelled
returns-clause-spelled c = spelled n.result_type 0 c.args.lexemes.now _ c.next_result_type.result _ (result_type_reads 0 c.args.lexemes.now) c.next_result_type.ensures.gives

pub returns-clause-only : goal.returns-clause-only
returns-clause-only c limit = only n.result_type limit c.args.lexemes.now _ c.next_result_type.result _ (result_type_reads limit c.args.lexemes.now) c.next_result_type.ensures.gives
