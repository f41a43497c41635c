-- The list gets shorter.
use Rattle.std.proofs.Common.{length}
use Rattle.interpreter_store.proofs.typed_cells.parts.+field_place.Given as goal

abbrev pub decreases-field_place : goal.decreases-field_place
decreases-field_place l = length l.parts.now
