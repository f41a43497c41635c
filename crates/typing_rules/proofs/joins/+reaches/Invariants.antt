use Rattle.typing_rules.proofs.joins.+reaches.Given as goal

abbrev pub decreases-reaches : goal.decreases-reaches
decreases-reaches l = l.room
