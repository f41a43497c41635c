use Rattle.std.proofs.Common.{◌≡◌, take}
use Rattle.std.specs.List.{sum_by}
use Rattle.typed_tree.specs.Slots.{capped}
use Rattle.typed_tree.specs.Frames.{param_bytes}
use Rattle.declaration_checker.proofs.headers.limits.bytes_of_params.Given as goal

abbrev pub invariant-loop-param : goal.invariant-loop-param
invariant-loop-param l = l.sum ≡ capped (sum_by (param_bytes l.types.types) (take l.param-index l.params))
