use Rattle.std.proofs.Common.{◌≡◌, drop, map}
use Rattle.typed_tree.specs.Statements.{view_taken}
use Rattle.lowerable.specs.Farness.{are_linkable_taken}
use Rattle.lowerable.proofs.statements.are_linkable_taken.Given as goal

abbrev pub invariant-loop-item : goal.invariant-loop-item
invariant-loop-item l = are_linkable_taken l.units l.unit (map view_taken l.items) ≡ are_linkable_taken l.units l.unit (map view_taken (drop l.item-index l.items))
