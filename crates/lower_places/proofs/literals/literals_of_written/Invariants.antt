use Rattle.std.proofs.Common.{◌≡◌, ◌+◌, ◌-◌, ◌^◌, ◌≤◌, min, map, drop, length}
use Rattle.typed_tree.specs.Statements.{view_written}
use Rattle.lower_places.specs.Data.{literals_of_written}
use Rattle.lower_places.proofs.literals.literals_of_written.Given as goal

abbrev pub invariant-loop-item : goal.invariant-loop-item
invariant-loop-item l =
    (l.sum ≤ 2 ^ 32 - 1) × (min (length (literals_of_written (map view_written l.items))) (2 ^ 32 - 1) ≡ min (l.sum + length (literals_of_written (map view_written (drop l.item-index l.items)))) (2 ^ 32 - 1))
