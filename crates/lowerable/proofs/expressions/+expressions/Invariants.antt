use Rattle.std.proofs.Common.{◌≡◌, drop}
use Rattle.typed_tree.specs.Expressions.{view_elements, view_args}
use Rattle.lowerable.specs.Farness.{are_linkable_elements, are_linkable}
use Rattle.lowerable.proofs.expressions.+expressions.Given as goal

abbrev pub invariant-are_linkable-loop-arg : goal.invariant-are_linkable-loop-arg
invariant-are_linkable-loop-arg l = are_linkable l.units l.unit (view_args l.args) ≡ are_linkable l.units l.unit (view_args (drop l.arg-index l.args))

abbrev pub invariant-are_linkable_elements-loop-element : goal.invariant-are_linkable_elements-loop-element
invariant-are_linkable_elements-loop-element l = are_linkable_elements l.units l.unit (view_elements l.elements) ≡ are_linkable_elements l.units l.unit (view_elements (drop l.element-index l.elements))
