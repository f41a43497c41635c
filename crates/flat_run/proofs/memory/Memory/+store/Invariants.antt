use Rattle.std.proofs.Common.{length}
use Rattle.flat_run.proofs.memory.Memory.+store.Given as goal

abbrev pub decreases-store : goal.decreases-store
decreases-store l = length l.bytes.now
