use Rattle.std.proofs.Common.{◌≡◌, map, take}
use Rattle.unit_interface.specs.Exports.{renumbered_item}
use Rattle.unit_interface.proofs.exports.items_of.Given as goal

abbrev pub invariant-loop-item : goal.invariant-loop-item
invariant-loop-item l = l.copy ≡ map (renumbered_item l.ids) (take l.item-index l.items)
