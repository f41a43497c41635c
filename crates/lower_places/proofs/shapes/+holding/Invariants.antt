-- The types before which a type stands get fewer.
use Rattle.std.proofs.Common.{◌≡◌, ◌+◌, ◌*◌, take}
use Rattle.std.specs.List.{list_any}
use Rattle.lower_places.specs.Shapes.{is_flagged_field, class_holders}
use Rattle.lower_places.proofs.shapes.+holding.Given as goal

abbrev pub decreases-is_flagged : goal.decreases-is_flagged
decreases-is_flagged l = 3 * l.before

abbrev pub decreases-is_any_flagged : goal.decreases-is_any_flagged
decreases-is_any_flagged l = 3 * l.before + 1

abbrev pub decreases-is_flagged_parent : goal.decreases-is_flagged_parent
decreases-is_flagged_parent l = 3 * l.before + 1

abbrev pub decreases-holds_class_by : goal.decreases-holds_class_by
decreases-holds_class_by l = 3 * l.before + 2

abbrev pub invariant-is_any_flagged-loop-field : goal.invariant-is_any_flagged-loop-field
invariant-is_any_flagged-loop-field l = l.any ≡ list_any (is_flagged_field (class_holders (take l.before l.types.types))) (take l.field-index l.fields)
