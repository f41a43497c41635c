use Rattle.std.proofs.Common.{◌≡◌, ◌+◌, ◌-◌, ◌^◌, ◌≤◌, min, map, drop, length}
use Rattle.typed_tree.specs.Statements.{view_taken}
use Rattle.lower_places.specs.Data.{literals_of_taken}
use Rattle.lower_places.proofs.literals.literals_of_taken.Given as goal

abbrev pub invariant-loop-item : goal.invariant-loop-item
invariant-loop-item l =
    (l.sum ≤ 2 ^ 32 - 1) × (min (length (literals_of_taken (map view_taken l.items))) (2 ^ 32 - 1) ≡ min (l.sum + length (literals_of_taken (map view_taken (drop l.item-index l.items)))) (2 ^ 32 - 1))
