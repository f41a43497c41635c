use Rattle.std.proofs.Common.{length}
use Rattle.unit_interface.proofs.merge.+add_all_declaring.Given as goal

abbrev pub decreases-add_all_declaring : goal.decreases-add_all_declaring
decreases-add_all_declaring l = length l.units.now
