use Rattle.std.proofs.Common.{◌≡◌, ◌+◌, ◌-◌, ◌^◌, ◌≤◌, drop, map}
use Rattle.typed_tree.specs.Statements.{view_taken}
use Rattle.typed_tree.specs.Slots.{capped}
use Rattle.typed_tree.specs.Weights.{taken_weight}
use Rattle.typed_tree.proofs.statement_weights.weight_of_taken.Given as goal

abbrev pub invariant-loop-item : goal.invariant-loop-item
invariant-loop-item l =
    (l.sum ≤ 2 ^ 64 - 1) × (capped (taken_weight (map view_taken l.items)) ≡ capped (l.sum + taken_weight (map view_taken (drop l.item-index l.items))))
