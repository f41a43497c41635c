use Rattle.std.proofs.Common.{length}
use Rattle.flat_run.proofs.program.+far_of.Given as goal

abbrev pub decreases-far_of : goal.decreases-far_of
decreases-far_of l = length l.units.now
