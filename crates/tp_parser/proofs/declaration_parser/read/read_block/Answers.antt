use Rattle.pascal_grammar.specs.Parts as n
use Rattle.expression_parser.proofs.Exact.{spelled, only}
use Rattle.tp_parser.proofs.declaration_parser.Sound.{all_blocks_read}
use Rattle.tp_parser.proofs.declaration_parser.read.read_block.Goals as goal

pub returns-clause-spelled : goal.returns-clause-spelled
returns-clause-spelled c = spelled n.block c.args.depth c.args.lexemes.now _ c.next_block.result _ (all_blocks_read c.args.depth c.args.lexemes.now) c.next_block.ensures.gives

pub returns-clause-only : goal.returns-clause-only
returns-clause-only c = only n.block c.args.depth c.args.lexemes.now _ c.next_block.result _ (all_blocks_read c.args.depth c.args.lexemes.now) c.next_block.ensures.gives
