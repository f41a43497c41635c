use Rattle.std.proofs.Common.{◌≡◌, take}
use Rattle.object_vmt.proofs.class.copied_fields.Given as goal

abbrev pub invariant-loop-field : goal.invariant-loop-field
invariant-loop-field l = l.copy ≡ take l.field-index l.fields
