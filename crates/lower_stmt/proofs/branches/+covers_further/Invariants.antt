use Rattle.std.proofs.Common.{length}
use Rattle.lower_stmt.proofs.branches.+covers_further.Given as goal

abbrev pub decreases-covers_further : goal.decreases-covers_further
decreases-covers_further l = length l.labels.now
