use Rattle.lower_places.proofs.scene.Scene.+links_within.Given as goal

abbrev pub decreases-links_within : goal.decreases-links_within
decreases-links_within l = l.most
