-- The types before which a type stands get fewer.
use Rattle.std.proofs.Common.{◌+◌, ◌*◌}
use Rattle.interpreter_store.proofs.typed_cells.parts.+parts.Given as goal

abbrev pub decreases-parts_before : goal.decreases-parts_before
decreases-parts_before l = 2 * l.before

abbrev pub decreases-parts_by : goal.decreases-parts_by
decreases-parts_by l = 2 * l.before + 1
