use Rattle.runtime_proofs.proofs.string_loops.BackwardLoop.{laid_back-has}
use Rattle.runtime_proofs.proofs.string_loops.loop_laws.Goals as goal

pub returns : goal.returns
returns c = laid_back-has
