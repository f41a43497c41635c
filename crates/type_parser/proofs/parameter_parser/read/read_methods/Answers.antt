use Rattle.pascal_grammar.specs.Parts as n
use Rattle.expression_parser.proofs.Exact.{spelled, only}
use Rattle.type_parser.proofs.parameter_parser.Sound.{methods_reads}
use Rattle.type_parser.proofs.parameter_parser.read.read_methods.Goals as goal

pub returns-clause-spelled : goal.returns-clause-spelled
returns-clause-spelled c = spelled n.methods c.args.depth c.args.lexemes.now _ c.next_methods.result _ (methods_reads c.args.depth c.args.lexemes.now) c.next_methods.ensures.gives

pub returns-clause-only : goal.returns-clause-only
returns-clause-only c = only n.methods c.args.depth c.args.lexemes.now _ c.next_methods.result _ (methods_reads c.args.depth c.args.lexemes.now) c.next_methods.ensures.gives
