use Rattle.std.proofs.Common.{length}
use Rattle.flat_run.proofs.state.Run.+begin_exprs.Given as goal

abbrev pub decreases-begin_exprs : goal.decreases-begin_exprs
decreases-begin_exprs l = length l.exprs.now
