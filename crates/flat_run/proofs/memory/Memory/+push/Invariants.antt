use Rattle.std.proofs.Common.{length}
use Rattle.flat_run.proofs.memory.Memory.+push.Given as goal

abbrev pub decreases-push : goal.decreases-push
decreases-push l = length l.words.now
