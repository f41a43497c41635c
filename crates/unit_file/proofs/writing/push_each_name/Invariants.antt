use Rattle.std.proofs.Common.{◌≡◌, ◌++◌, drop}
use Rattle.std.specs.List.{flat_map}
use Rattle.object_file.specs.file_parts.Spelling.{name_text}
use Rattle.unit_file.proofs.writing.push_each_name.Given as goal

-- what is written and what is left are all
abbrev pub invariant-loop-name : goal.invariant-loop-name
invariant-loop-name l = l.bytes ++ flat_map name_text (drop l.name-index l.names) ≡ l.initial.bytes ++ flat_map name_text l.names
