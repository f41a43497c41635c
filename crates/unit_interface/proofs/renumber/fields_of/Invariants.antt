use Rattle.std.proofs.Common.{◌≡◌, map, take}
use Rattle.unit_interface.specs.Merge.{renumbered_field}
use Rattle.unit_interface.proofs.renumber.fields_of.Given as goal

abbrev pub invariant-loop-field : goal.invariant-loop-field
invariant-loop-field l = l.copy ≡ map (renumbered_field l.ids) (take l.field-index l.fields)
