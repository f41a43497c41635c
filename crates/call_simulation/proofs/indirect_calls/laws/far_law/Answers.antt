use Rattle.call_simulation.proofs.indirect_calls.FarCalls.{far_calls}
use Rattle.call_simulation.proofs.indirect_calls.laws.far_law.Goals as goal

pub returns : goal.returns
returns c = far_calls
