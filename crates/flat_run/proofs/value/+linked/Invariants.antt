use Rattle.flat_run.proofs.value.+linked.Given as goal

abbrev pub decreases-linked : goal.decreases-linked
decreases-linked l = l.levels
