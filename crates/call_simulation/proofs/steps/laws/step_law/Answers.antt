use Rattle.call_simulation.proofs.steps.Steps.{call_flows, runtime_flows}
use Rattle.call_simulation.proofs.steps.laws.step_law.Goals as goal

pub returns-clause-call : goal.returns-clause-call
returns-clause-call c = call_flows

pub returns-clause-runtime : goal.returns-clause-runtime
returns-clause-runtime c = runtime_flows
