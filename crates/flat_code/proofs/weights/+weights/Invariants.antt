use Rattle.std.proofs.Common.{◌≡◌, ◌+◌, ◌-◌, ◌^◌, ◌≤◌, drop}
use Rattle.flat_code.specs.View.{view_list}
use Rattle.flat_code.specs.Weights.{capped, code_weight}
use Rattle.flat_code.proofs.weights.+weights.Given as goal

abbrev pub invariant-weight_of_list-loop-stmt : goal.invariant-weight_of_list-loop-stmt
invariant-weight_of_list-loop-stmt l =
    (l.sum ≤ 2 ^ 64 - 1) × (capped (code_weight (view_list l.list)) ≡ capped (l.sum + code_weight (view_list (drop l.stmt-index l.list))))
