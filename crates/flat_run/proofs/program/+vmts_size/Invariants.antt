use Rattle.std.proofs.Common.{length}
use Rattle.flat_run.proofs.program.+vmts_size.Given as goal

abbrev pub decreases-vmts_size : goal.decreases-vmts_size
decreases-vmts_size l = length l.list.now
