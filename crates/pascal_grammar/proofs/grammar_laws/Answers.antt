use Rattle.pascal_grammar.proofs.Laws.{is_predicted, is_inhabited, is_unambiguous}
use Rattle.pascal_grammar.proofs.grammar_laws.Goals as goal

pub returns-clause-predicted : goal.returns-clause-predicted
returns-clause-predicted c = is_predicted

pub returns-clause-inhabited : goal.returns-clause-inhabited
returns-clause-inhabited c = is_inhabited

pub returns-clause-unambiguous : goal.returns-clause-unambiguous
returns-clause-unambiguous c = is_unambiguous
