-- The list gets shorter.
use Rattle.std.proofs.Common.{length}
use Rattle.interpreter_store.proofs.typed_cells.parts.+class_place.Given as goal

abbrev pub decreases-class_place : goal.decreases-class_place
decreases-class_place l = length l.parts.now
