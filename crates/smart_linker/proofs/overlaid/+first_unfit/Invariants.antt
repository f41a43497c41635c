use Rattle.std.proofs.Common.{length}
use Rattle.smart_linker.proofs.overlaid.+first_unfit.Given as goal

abbrev pub decreases-first_unfit : goal.decreases-first_unfit
decreases-first_unfit l = length l.units.now
