use Rattle.std.proofs.Common.{length}
use Rattle.lower_stmt.proofs.branches.+between_further.Given as goal

abbrev pub decreases-between_further : goal.decreases-between_further
decreases-between_further l = length l.labels.now
