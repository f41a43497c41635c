use Rattle.std.proofs.Common.{length}
use Rattle.flat_run.proofs.program.+datum_of.Given as goal

abbrev pub decreases-datum_of : goal.decreases-datum_of
decreases-datum_of l = length l.units.now
