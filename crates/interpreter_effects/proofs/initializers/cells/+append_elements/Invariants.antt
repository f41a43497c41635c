-- The bits get fewer.
use Rattle.interpreter_effects.proofs.initializers.cells.+append_elements.Given as goal

abbrev pub decreases-append_elements : goal.decreases-append_elements
decreases-append_elements l = l.count
