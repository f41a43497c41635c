-- The list gets shorter.
use Rattle.std.proofs.Common.{length}
use Rattle.interpreter.proofs.execution.+branch_for.Given as goal

abbrev pub decreases-branch_for : goal.decreases-branch_for
decreases-branch_for l = length l.arms.now
