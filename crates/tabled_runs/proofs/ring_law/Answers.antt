use Rattle.tabled_runs.proofs.RingLaws.{ring_runs}
use Rattle.tabled_runs.proofs.ring_law.Goals as goal

pub returns : goal.returns
returns c = ring_runs
