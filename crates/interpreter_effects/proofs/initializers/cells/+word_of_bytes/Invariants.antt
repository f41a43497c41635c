-- The list gets shorter.
use Rattle.std.proofs.Common.{length}
use Rattle.interpreter_effects.proofs.initializers.cells.+word_of_bytes.Given as goal

abbrev pub decreases-word_of_bytes : goal.decreases-word_of_bytes
decreases-word_of_bytes l = length l.bytes.now
