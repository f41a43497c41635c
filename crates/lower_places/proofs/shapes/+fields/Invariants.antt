-- The types before which a type stands get fewer.
use Rattle.std.proofs.Common.{◌+◌, ◌*◌}
use Rattle.lower_places.proofs.shapes.+fields.Given as goal

abbrev pub decreases-field_before : goal.decreases-field_before
decreases-field_before l = 2 * l.before

abbrev pub decreases-field_by : goal.decreases-field_by
decreases-field_by l = 2 * l.before + 1
