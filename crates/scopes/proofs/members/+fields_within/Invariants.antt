use Rattle.scopes.proofs.members.+fields_within.Given as goal

abbrev pub decreases-fields_within : goal.decreases-fields_within
decreases-fields_within l = l.room
