use Rattle.call_simulation.proofs.steps.Entering.{called_flows}
use Rattle.call_simulation.proofs.steps.laws.routine_law.Goals as goal

pub returns : goal.returns
returns c = called_flows
