use Rattle.type_layout.specs.Words.{is_name, spelled_by}
use Rattle.tp_lexer.proofs.Variants.{option_is}
use Rattle.tp_lexer.proofs.word.name_of.Goals as goal

pub returns : goal.returns
returns c = option_is _ (is_name (spelled_by c.args.bytes.now)) (spelled_by c.args.bytes.now) c.from_word.ensures.variant c.from_word.ensures.value
