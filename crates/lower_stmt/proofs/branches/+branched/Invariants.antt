use Rattle.std.proofs.Common.{length}
use Rattle.lower_stmt.proofs.branches.+branched.Given as goal

abbrev pub decreases-branched : goal.decreases-branched
decreases-branched l = length l.arms.now
