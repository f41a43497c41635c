use Rattle.std.proofs.Common.{◌≡◌, ◌++◌, drop}
use Rattle.std.specs.List.{flat_map}
use Rattle.unit_file.specs.interface_file.Text.{interface_text}
use Rattle.unit_file.proofs.writing.push_each_import.Given as goal

-- what is written and what is left are all
abbrev pub invariant-loop-import : goal.invariant-loop-import
invariant-loop-import l = l.bytes ++ flat_map interface_text (drop l.import-index l.imports) ≡ l.initial.bytes ++ flat_map interface_text l.imports
