-- The types before which a type stands get fewer.
use Rattle.std.proofs.Common.{◌+◌, ◌*◌}
use Rattle.interpreter_store.proofs.typed_cells.parts.+fields.Given as goal

abbrev pub decreases-fields_before : goal.decreases-fields_before
decreases-fields_before l = 2 * l.before

abbrev pub decreases-fields_by : goal.decreases-fields_by
decreases-fields_by l = 2 * l.before + 1
