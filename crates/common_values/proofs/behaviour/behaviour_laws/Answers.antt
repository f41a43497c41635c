use Rattle.common_values.proofs.behaviour.SeenLaws.{shows_laws, follows_laws, backward_laws}
use Rattle.common_values.proofs.behaviour.behaviour_laws.Goals as goal

pub returns-clause-shows : goal.returns-clause-shows
returns-clause-shows c = shows_laws

pub returns-clause-follows : goal.returns-clause-follows
returns-clause-follows c = follows_laws

pub returns-clause-backward : goal.returns-clause-backward
returns-clause-backward c = backward_laws
