use Rattle.call_simulation.proofs.frames.Deeper.{chained_deeper}
use Rattle.call_simulation.proofs.frames.laws.chain_law.Goals as goal

pub returns : goal.returns
returns c = λ w caller live fits name unit r back deep top inside arguments locals. chained_deeper w caller live fits name unit r back deep top inside arguments locals
