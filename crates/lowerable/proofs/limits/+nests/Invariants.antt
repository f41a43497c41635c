use Rattle.lowerable.proofs.limits.+nests.Given as goal

abbrev pub decreases-nests : goal.decreases-nests
decreases-nests l = l.most
