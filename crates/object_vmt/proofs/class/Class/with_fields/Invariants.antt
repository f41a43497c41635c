use Rattle.std.proofs.Common.{◌≡◌, take, drop}
use Rattle.object_vmt.specs.Members.{with_fields}
use Rattle.object_vmt.specs.Faults.{fields_fault}
use Rattle.object_vmt.proofs.class.Class.with_fields.Given as goal

abbrev pub invariant-loop-field : goal.invariant-loop-field
invariant-loop-field l = record {
  members : l.class ≡ with_fields l.fn.self (take l.field-index l.fields);
  fault : fields_fault l.fn.self l.fields ≡ fields_fault l.class (drop l.field-index l.fields);
}
