use Rattle.std.proofs.Common.{◌≡◌, max, drop, map}
use Rattle.typed_tree.specs.Statements.{view_written}
use Rattle.typed_tree.specs.Slots.{capped}
use Rattle.typed_tree.specs.Needs.{written_need}
use Rattle.typed_tree.proofs.statement_needs.need_of_written.Given as goal

abbrev pub invariant-loop-item : goal.invariant-loop-item
invariant-loop-item l =
    capped (written_need l.types.types (map view_written l.items))
    ≡ max l.most (capped (written_need l.types.types (map view_written (drop l.item-index l.items))))
