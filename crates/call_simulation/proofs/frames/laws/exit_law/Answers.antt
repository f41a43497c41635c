use Rattle.call_simulation.proofs.frames.Exit.{exit_run}
use Rattle.call_simulation.proofs.frames.laws.exit_law.Goals as goal

pub returns : goal.returns
returns c = λ w caller site live fits name unit r back s r0 a room deep inner chained. exit_run w caller site live fits name unit r back s r0 a room deep inner chained
