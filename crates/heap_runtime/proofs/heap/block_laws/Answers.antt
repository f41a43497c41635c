use Rattle.heap_runtime.proofs.heap.Making.{makes}
use Rattle.heap_runtime.proofs.heap.Disposing.{disposes}
use Rattle.heap_runtime.proofs.heap.block_laws.Goals as goal

pub returns-clause-new : goal.returns-clause-new
returns-clause-new c = makes

pub returns-clause-dispose : goal.returns-clause-dispose
returns-clause-dispose c = disposes
