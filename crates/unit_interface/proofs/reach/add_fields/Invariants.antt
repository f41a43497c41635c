use Rattle.std.proofs.Common.{◌≡◌, ◌++◌, drop}
use Rattle.unit_interface.specs.Exports.{in_fields}
use Rattle.unit_interface.proofs.reach.add_fields.Given as goal

abbrev pub invariant-loop-field : goal.invariant-loop-field
invariant-loop-field l = l.initial.numbers ++ in_fields l.fields ≡ l.numbers ++ in_fields (drop l.field-index l.fields)
