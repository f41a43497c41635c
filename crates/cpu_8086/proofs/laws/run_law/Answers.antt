use Rattle.cpu_8086.proofs.RunLaws.{runs_compose, runs_deterministic, not_running_stays}
use Rattle.cpu_8086.proofs.laws.run_law.Goals as goal

pub returns-clause-compose : goal.returns-clause-compose
returns-clause-compose c = runs_compose

pub returns-clause-one : goal.returns-clause-one
returns-clause-one c = runs_deterministic

pub returns-clause-over : goal.returns-clause-over
returns-clause-over c = not_running_stays
