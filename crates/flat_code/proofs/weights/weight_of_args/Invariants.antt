use Rattle.std.proofs.Common.{◌≡◌, ◌+◌, ◌-◌, ◌^◌, ◌≤◌, drop}
use Rattle.flat_code.specs.View.{view_exprs}
use Rattle.flat_code.specs.Weights.{capped, exprs_weight}
use Rattle.flat_code.proofs.weights.weight_of_args.Given as goal

abbrev pub invariant-loop-arg : goal.invariant-loop-arg
invariant-loop-arg l =
    (l.sum ≤ 2 ^ 64 - 1) × (capped (exprs_weight (view_exprs l.args)) ≡ capped (l.sum + exprs_weight (view_exprs (drop l.arg-index l.args))))
