use Rattle.call_rules.proofs.method_rules.slots.+slots_within.Given as goal

abbrev pub decreases-slots_within : goal.decreases-slots_within
decreases-slots_within l = l.room
