use Rattle.std.proofs.Common.{length}
use Rattle.smart_linker.proofs.overlaid.+first_unmarked.Given as goal

abbrev pub decreases-first_unmarked : goal.decreases-first_unmarked
decreases-first_unmarked l = length l.units.now
