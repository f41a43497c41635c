use Rattle.std.proofs.Common.{length}
use Rattle.lowerable.proofs.routines.+unit_in.Given as goal

abbrev pub decreases-unit_in : goal.decreases-unit_in
decreases-unit_in l = length l.units.now
