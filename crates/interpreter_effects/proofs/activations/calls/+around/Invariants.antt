-- The list gets shorter.
use Rattle.std.proofs.Common.{length}
use Rattle.interpreter_effects.proofs.activations.calls.+around.Given as goal

abbrev pub decreases-around : goal.decreases-around
decreases-around l = length l.levels.now
