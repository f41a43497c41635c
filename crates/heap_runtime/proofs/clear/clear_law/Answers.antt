use Rattle.heap_runtime.proofs.clear.Clearing.{clears}
use Rattle.heap_runtime.proofs.clear.clear_law.Goals as goal

pub returns : goal.returns
returns c = clears
