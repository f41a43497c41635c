use Rattle.lowerable.proofs.Gives.{gives, names-apart}
use Rattle.lowerable.proofs.lowerable_laws.Goals as goal

pub returns-clause-gives : goal.returns-clause-gives
returns-clause-gives c = gives

pub returns-clause-names : goal.returns-clause-names
returns-clause-names c = names-apart
