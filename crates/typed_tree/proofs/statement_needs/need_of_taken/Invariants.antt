use Rattle.std.proofs.Common.{◌≡◌, max, drop, map}
use Rattle.typed_tree.specs.Statements.{view_taken}
use Rattle.typed_tree.specs.Slots.{capped}
use Rattle.typed_tree.specs.Needs.{taken_need}
use Rattle.typed_tree.proofs.statement_needs.need_of_taken.Given as goal

abbrev pub invariant-loop-item : goal.invariant-loop-item
invariant-loop-item l =
    capped (taken_need l.types.types (map view_taken l.items))
    ≡ max l.most (capped (taken_need l.types.types (map view_taken (drop l.item-index l.items))))
