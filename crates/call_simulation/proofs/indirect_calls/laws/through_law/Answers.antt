use Rattle.call_simulation.proofs.indirect_calls.Through.{through_flows}
use Rattle.call_simulation.proofs.indirect_calls.laws.through_law.Goals as goal

pub returns : goal.returns
returns c = through_flows
