use Rattle.address_independence.proofs.congruence.Runs.{means_alike}
use Rattle.address_independence.proofs.congruence.laws.same_meaning_law.Goals as goal

pub returns : goal.returns
returns c = means_alike
