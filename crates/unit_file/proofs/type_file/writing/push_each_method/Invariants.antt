use Rattle.std.proofs.Common.{◌≡◌, ◌++◌, drop}
use Rattle.std.specs.List.{flat_map}
use Rattle.unit_file.specs.type_file.Text.{method_text}
use Rattle.unit_file.proofs.type_file.writing.push_each_method.Given as goal

-- what is written and what is left are all
abbrev pub invariant-loop-method : goal.invariant-loop-method
invariant-loop-method l = l.bytes ++ flat_map method_text (drop l.method-index l.methods) ≡ l.initial.bytes ++ flat_map method_text l.methods
