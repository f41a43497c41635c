use Rattle.cpu_8086.proofs.DirectLaws.{effect_direct}
use Rattle.cpu_8086.proofs.StepLaws.{steps_deterministic, length-steps}
use Rattle.cpu_8086.proofs.laws.step_law.Goals as goal

pub returns-clause-direct : goal.returns-clause-direct
returns-clause-direct c = effect_direct

pub returns-clause-one : goal.returns-clause-one
returns-clause-one c = steps_deterministic

pub returns-clause-memory : goal.returns-clause-memory
returns-clause-memory c = length-steps
