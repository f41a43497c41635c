use Rattle.std.proofs.Common.{◌≡◌, ◌++◌, drop}
use Rattle.std.specs.List.{flat_map}
use Rattle.object_file.specs.Text.{code_text}
use Rattle.object_file.proofs.writing.push_each_code.Given as goal

-- what is written and what is left are all
abbrev pub invariant-loop-routine : goal.invariant-loop-routine
invariant-loop-routine l = l.bytes ++ flat_map code_text (drop l.routine-index l.routines) ≡ l.initial.bytes ++ flat_map code_text l.routines
