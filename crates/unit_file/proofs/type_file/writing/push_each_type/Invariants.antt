use Rattle.std.proofs.Common.{◌≡◌, ◌++◌, drop}
use Rattle.std.specs.List.{flat_map}
use Rattle.unit_file.specs.type_file.Text.{entry_text, entries_from, entries_of}
use Rattle.unit_file.proofs.type_file.writing.push_each_type.Given as goal

-- what is written and what is left are all
abbrev pub invariant-loop-k : goal.invariant-loop-k
invariant-loop-k l = l.bytes ++ flat_map entry_text (entries_from l.types.units (drop l.k l.types.types) (drop l.k l.types.origins)) ≡ l.initial.bytes ++ flat_map entry_text (entries_of l.types)
