use Rattle.std.proofs.Common.{◌≡◌, ◌+◌, ◌-◌, ◌^◌, ◌≤◌, drop}
use Rattle.typed_tree.specs.Expressions.{view_elements, view_args}
use Rattle.typed_tree.specs.Slots.{capped}
use Rattle.typed_tree.specs.Weights.{elements_weight, arguments_weight}
use Rattle.typed_tree.proofs.weights.+weights.Given as goal

abbrev pub invariant-weight_of_args-loop-arg : goal.invariant-weight_of_args-loop-arg
invariant-weight_of_args-loop-arg l =
    (l.sum ≤ 2 ^ 64 - 1) × (capped (arguments_weight (view_args l.args)) ≡ capped (l.sum + arguments_weight (view_args (drop l.arg-index l.args))))

abbrev pub invariant-weight_of_elements-loop-element : goal.invariant-weight_of_elements-loop-element
invariant-weight_of_elements-loop-element l =
    (l.sum ≤ 2 ^ 64 - 1) × (capped (elements_weight (view_elements l.elements)) ≡ capped (l.sum + elements_weight (view_elements (drop l.element-index l.elements))))
