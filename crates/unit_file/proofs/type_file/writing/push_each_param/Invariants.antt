use Rattle.std.proofs.Common.{◌≡◌, ◌++◌, drop}
use Rattle.std.specs.List.{flat_map}
use Rattle.unit_file.specs.type_file.Text.{param_text}
use Rattle.unit_file.proofs.type_file.writing.push_each_param.Given as goal

-- what is written and what is left are all
abbrev pub invariant-loop-param : goal.invariant-loop-param
invariant-loop-param l = l.bytes ++ flat_map param_text (drop l.param-index l.params) ≡ l.initial.bytes ++ flat_map param_text l.params
