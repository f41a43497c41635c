use Rattle.tabled_runs.proofs.RunLaws.{runs_compose}
use Rattle.tabled_runs.proofs.compose_law.Goals as goal

pub returns : goal.returns
returns c = runs_compose
