-- The list gets shorter.
use Rattle.std.proofs.Common.{length}
use Rattle.interpreter_effects.proofs.initializers.cells.+append_set.Given as goal

abbrev pub decreases-append_set : goal.decreases-append_set
decreases-append_set l = length l.bytes.now
