use Rattle.std.proofs.Common.{length}
use Rattle.flat_run.proofs.program.+datum_from.Given as goal

abbrev pub decreases-datum_from : goal.decreases-datum_from
decreases-datum_from l = length l.list.now
