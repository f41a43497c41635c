use Rattle.std.proofs.Common.{◌≡◌, ◌+◌, ◌-◌, ◌^◌, ◌≤◌, min, drop, length}
use Rattle.typed_tree.specs.Expressions.{view_elements, view_args}
use Rattle.lower_places.specs.Data.{literals_of_elements, literals_of_arguments}
use Rattle.lower_places.proofs.literals.+literals.Given as goal

abbrev pub invariant-literals_of_elements-loop-element : goal.invariant-literals_of_elements-loop-element
invariant-literals_of_elements-loop-element l =
    (l.sum ≤ 2 ^ 32 - 1) × (min (length (literals_of_elements (view_elements l.elements))) (2 ^ 32 - 1) ≡ min (l.sum + length (literals_of_elements (view_elements (drop l.element-index l.elements)))) (2 ^ 32 - 1))

abbrev pub invariant-literals_of_args-loop-arg : goal.invariant-literals_of_args-loop-arg
invariant-literals_of_args-loop-arg l =
    (l.sum ≤ 2 ^ 32 - 1) × (min (length (literals_of_arguments (view_args l.args))) (2 ^ 32 - 1) ≡ min (l.sum + length (literals_of_arguments (view_args (drop l.arg-index l.args)))) (2 ^ 32 - 1))
