use Rattle.flat_run.proofs.program.+callee_from.Given as goal

abbrev pub decreases-callee_from : goal.decreases-callee_from
decreases-callee_from l = l.distance
