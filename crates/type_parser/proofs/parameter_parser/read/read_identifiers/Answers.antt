use Rattle.pascal_grammar.specs.Parts as n
use Rattle.expression_parser.proofs.Exact.{spelled, only}
use Rattle.type_parser.proofs.parameter_parser.Sound.{identifiers_reads}
use Rattle.type_parser.proofs.parameter_parser.read.read_identifiers.Goals as goal

pub returns-clause-spelled : goal.returns-clause-spelled
returns-clause-spelled c = spelled n.identifiers 0 c.args.lexemes.now _ c.next_identifiers.result _ (identifiers_reads 0 c.args.lexemes.now) c.next_identifiers.ensures.gives

pub returns-clause-only : goal.returns-clause-only
returns-clause-only c limit = only n.identifiers limit c.args.lexemes.now _ c.next_identifiers.result _ (identifiers_reads limit c.args.lexemes.now) c.next_identifiers.ensures.gives
