use Rattle.std.proofs.Common.{◌≡◌, ◌++◌, drop}
use Rattle.unit_interface.specs.Exports.{in_items}
use Rattle.unit_interface.proofs.reach.add_items.Given as goal

abbrev pub invariant-loop-item : goal.invariant-loop-item
invariant-loop-item l = l.initial.numbers ++ in_items l.items ≡ l.numbers ++ in_items (drop l.item-index l.items)
