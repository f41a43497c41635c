-- The list gets shorter.
use Rattle.std.proofs.Common.{length}
use Rattle.interpreter_store.proofs.typed_cells.parts.+has_class_part.Given as goal

abbrev pub decreases-has_class_part : goal.decreases-has_class_part
decreases-has_class_part l = length l.parts.now
