use Rattle.std.proofs.Common.{◌≡◌, ◌++◌, drop}
use Rattle.std.specs.List.{flat_map}
use Rattle.object_file.specs.Text.{datum_text}
use Rattle.object_file.proofs.writing.push_each_datum.Given as goal

-- what is written and what is left are all
abbrev pub invariant-loop-datum : goal.invariant-loop-datum
invariant-loop-datum l = l.bytes ++ flat_map datum_text (drop l.datum-index l.list) ≡ l.initial.bytes ++ flat_map datum_text l.list
