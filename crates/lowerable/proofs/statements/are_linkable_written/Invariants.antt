use Rattle.std.proofs.Common.{◌≡◌, drop, map}
use Rattle.typed_tree.specs.Statements.{view_written}
use Rattle.lowerable.specs.Farness.{are_linkable_written}
use Rattle.lowerable.proofs.statements.are_linkable_written.Given as goal

abbrev pub invariant-loop-item : goal.invariant-loop-item
invariant-loop-item l = are_linkable_written l.units l.unit (map view_written l.items) ≡ are_linkable_written l.units l.unit (map view_written (drop l.item-index l.items))
