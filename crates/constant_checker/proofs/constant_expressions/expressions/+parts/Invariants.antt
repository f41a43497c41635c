use Rattle.std.proofs.Common.{◌≡◌, [], drop}
use Rattle.syntax_tree.specs.expression_tree.Trees.{view_arguments, view_elements}
use Rattle.constant_checker.specs.constant_expressions.Constants.{operands_judged, spans_judged}
use Rattle.constant_checker.proofs.constant_expressions.expressions.+parts.Given as goal

abbrev pub invariant-spans_of-loop-element : goal.invariant-spans_of-loop-element
invariant-spans_of-loop-element l =
    (spans_judged l.scope l.spans.items (view_elements (drop l.element-index l.elements))).run ≡ (spans_judged l.scope [] (view_elements l.elements)).run

abbrev pub invariant-operands_of-loop-argument : goal.invariant-operands_of-loop-argument
invariant-operands_of-loop-argument l =
    (operands_judged l.scope l.place l.operands.items (view_arguments (drop l.argument-index l.arguments))).run ≡ (operands_judged l.scope l.place [] (view_arguments l.arguments)).run
