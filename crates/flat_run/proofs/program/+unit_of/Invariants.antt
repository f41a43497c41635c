use Rattle.std.proofs.Common.{length}
use Rattle.flat_run.proofs.program.+unit_of.Given as goal

abbrev pub decreases-unit_of : goal.decreases-unit_of
decreases-unit_of l = length l.units.now
