use Rattle.scopes.proofs.members.+member_within.Given as goal

abbrev pub decreases-member_within : goal.decreases-member_within
decreases-member_within l = l.room
