-- The list gets shorter.
use Rattle.std.proofs.Common.{length}
use Rattle.interpreter_effects.proofs.activations.opening.+append_arguments.Given as goal

abbrev pub decreases-append_arguments : goal.decreases-append_arguments
decreases-append_arguments l = length l.params.now
