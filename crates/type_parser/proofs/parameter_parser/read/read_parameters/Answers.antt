use Rattle.pascal_grammar.specs.Parts as n
use Rattle.expression_parser.proofs.Exact.{spelled, only}
use Rattle.type_parser.proofs.parameter_parser.Sound.{parameters_reads}
use Rattle.type_parser.proofs.parameter_parser.read.read_parameters.Goals as goal

pub returns-clause-spelled : goal.returns-clause-spelled
returns-clause-spelled c = spelled n.parameters c.args.depth c.args.lexemes.now _ c.next_parameters.result _ (parameters_reads c.args.depth c.args.lexemes.now) c.next_parameters.ensures.gives

pub returns-clause-only : goal.returns-clause-only
returns-clause-only c = only n.parameters c.args.depth c.args.lexemes.now _ c.next_parameters.result _ (parameters_reads c.args.depth c.args.lexemes.now) c.next_parameters.ensures.gives
