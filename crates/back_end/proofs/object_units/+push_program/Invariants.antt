use Rattle.std.proofs.Common.{length}
use Rattle.back_end.proofs.object_units.+push_program.Given as goal

abbrev pub decreases-push_program : goal.decreases-push_program
decreases-push_program l = length l.units.now
