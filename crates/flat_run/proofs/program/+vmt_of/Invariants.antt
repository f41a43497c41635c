use Rattle.std.proofs.Common.{length}
use Rattle.flat_run.proofs.program.+vmt_of.Given as goal

abbrev pub decreases-vmt_of : goal.decreases-vmt_of
decreases-vmt_of l = length l.units.now
