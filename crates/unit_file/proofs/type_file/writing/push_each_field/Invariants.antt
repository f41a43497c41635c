use Rattle.std.proofs.Common.{◌≡◌, ◌++◌, drop}
use Rattle.std.specs.List.{flat_map}
use Rattle.unit_file.specs.type_file.Text.{field_text}
use Rattle.unit_file.proofs.type_file.writing.push_each_field.Given as goal

-- what is written and what is left are all
abbrev pub invariant-loop-field : goal.invariant-loop-field
invariant-loop-field l = l.bytes ++ flat_map field_text (drop l.field-index l.fields) ≡ l.initial.bytes ++ flat_map field_text l.fields
