use Rattle.lower_places.proofs.scene.Scene.+routine_around.Given as goal

abbrev pub decreases-routine_around : goal.decreases-routine_around
decreases-routine_around l = l.links
