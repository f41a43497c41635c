use Rattle.common_values.proofs.InputLemmas.{taking_laws}
use Rattle.common_values.proofs.input.input_laws.Goals as goal

pub returns-clause-taking : goal.returns-clause-taking
returns-clause-taking c = taking_laws
