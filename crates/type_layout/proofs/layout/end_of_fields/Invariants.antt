use Rattle.std.proofs.Common.{◌≡◌, ◌+◌, ◌-◌, ◌^◌, min, take}
use Rattle.type_layout.specs.Layouts.{fields_size}
use Rattle.type_layout.proofs.layout.end_of_fields.Given as goal

abbrev pub invariant-loop-field : goal.invariant-loop-field
invariant-loop-field l = l.end ≡ min (l.fn.start + fields_size l.layouts (take l.field-index l.fields)) (2 ^ 64 - 1)
