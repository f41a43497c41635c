use Rattle.std.proofs.Common.{◌≡◌, ◌++◌, drop}
use Rattle.std.specs.List.{flat_map}
use Rattle.object_file.specs.Text.{ref_text}
use Rattle.object_file.proofs.writing.push_each_ref.Given as goal

-- what is written and what is left are all
abbrev pub invariant-loop-one : goal.invariant-loop-one
invariant-loop-one l = l.bytes ++ flat_map ref_text (drop l.one-index l.refs) ≡ l.initial.bytes ++ flat_map ref_text l.refs
