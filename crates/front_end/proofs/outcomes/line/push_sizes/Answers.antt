use Rattle.front_end.proofs.outcomes.Joined.{thrice}
use Rattle.front_end.proofs.outcomes.line.push_sizes.Goals as goal

pub returns-clause-text : goal.returns-clause-text
returns-clause-text c = thrice _ _ _ _ _ _ _ c.push_numbered.ensures.text c.push_text.ensures c.push_decimal.ensures.text
