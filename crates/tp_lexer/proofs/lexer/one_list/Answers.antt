use Rattle.tp_lexer.proofs.TokenLaws.{tokens_once, tokens_or_break}
use Rattle.tp_lexer.proofs.lexer.one_list.Goals as goal

pub returns-clause-list : goal.returns-clause-list
returns-clause-list c = tokens_once

pub returns-clause-fault : goal.returns-clause-fault
returns-clause-fault c = tokens_or_break
