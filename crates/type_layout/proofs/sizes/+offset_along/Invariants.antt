use Rattle.type_layout.proofs.sizes.+offset_along.Given as goal

abbrev pub decreases-offset_along : goal.decreases-offset_along
decreases-offset_along l = l.id.0
