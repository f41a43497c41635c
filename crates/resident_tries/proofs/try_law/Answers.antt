use Rattle.resident_tries.proofs.TryLaws.{followed_runs}
use Rattle.resident_tries.proofs.try_law.Goals as goal

pub returns : goal.returns
returns c = followed_runs
