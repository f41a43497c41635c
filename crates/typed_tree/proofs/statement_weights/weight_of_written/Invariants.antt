use Rattle.std.proofs.Common.{◌≡◌, ◌+◌, ◌-◌, ◌^◌, ◌≤◌, drop, map}
use Rattle.typed_tree.specs.Statements.{view_written}
use Rattle.typed_tree.specs.Slots.{capped}
use Rattle.typed_tree.specs.Weights.{written_weight}
use Rattle.typed_tree.proofs.statement_weights.weight_of_written.Given as goal

abbrev pub invariant-loop-item : goal.invariant-loop-item
invariant-loop-item l =
    (l.sum ≤ 2 ^ 64 - 1) × (capped (written_weight (map view_written l.items)) ≡ capped (l.sum + written_weight (map view_written (drop l.item-index l.items))))
