use Rattle.token_provenance.proofs.leaves.Gathered.{spelled_sources}
use Rattle.token_provenance.proofs.leaves.laws.spelled_law.Goals as goal

pub returns : goal.returns
returns c = spelled_sources
