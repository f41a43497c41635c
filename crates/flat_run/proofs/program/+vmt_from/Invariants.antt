use Rattle.std.proofs.Common.{length}
use Rattle.flat_run.proofs.program.+vmt_from.Given as goal

abbrev pub decreases-vmt_from : goal.decreases-vmt_from
decreases-vmt_from l = length l.list.now
