use Rattle.std.proofs.Common.{◌≡◌, max, drop}
use Rattle.typed_tree.specs.Expressions.{view_elements, view_args}
use Rattle.typed_tree.specs.Slots.{capped}
use Rattle.typed_tree.specs.Needs.{elements_need, arguments_need}
use Rattle.typed_tree.proofs.needs.+needs.Given as goal

abbrev pub invariant-need_of_args-loop-arg : goal.invariant-need_of_args-loop-arg
invariant-need_of_args-loop-arg l =
    capped (arguments_need l.types.types l.before l.result_slot (view_args l.args))
    ≡ max l.most (capped (arguments_need l.types.types l.slots l.result_slot (view_args (drop l.arg-index l.args))))

abbrev pub invariant-need_of_elements-loop-element : goal.invariant-need_of_elements-loop-element
invariant-need_of_elements-loop-element l =
    capped (elements_need l.types.types (view_elements l.elements))
    ≡ max l.most (capped (elements_need l.types.types (view_elements (drop l.element-index l.elements))))
