use Rattle.std.proofs.Common.{◌≡◌, drop, map}
use Rattle.typed_tree.specs.Expressions.{view_expr}
use Rattle.call_rules.specs.Lists.{behind}
use Rattle.call_rules.specs.set_rules.Sets.{view_item}
use Rattle.syntax_tree.specs.expression_tree.Trees.{view_arguments, view_elements}
use Rattle.tp_check_expr.specs.Typed.{all_given, items_judged}
use Rattle.tp_check_expr.proofs.expressions.+parts.Given as goal

abbrev pub invariant-operands-loop-argument : goal.invariant-operands-loop-argument
invariant-operands-loop-argument l =
    behind (map view_expr l.operands.items) (all_given l.scope l.here l.left (view_arguments (drop l.argument-index l.arguments))).run
    ≡ (all_given l.scope l.here l.params (view_arguments l.arguments)).run

abbrev pub invariant-items-loop-element : goal.invariant-items-loop-element
invariant-items-loop-element l =
    behind (map view_item l.items.items) (items_judged l.scope (view_elements (drop l.element-index l.elements))).run
    ≡ (items_judged l.scope (view_elements l.elements)).run
