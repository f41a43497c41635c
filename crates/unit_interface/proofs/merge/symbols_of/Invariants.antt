use Rattle.std.proofs.Common.{◌≡◌, drop, []}
use Rattle.unit_interface.specs.Merge.{with_items}
use Rattle.unit_interface.proofs.merge.symbols_of.Given as goal

abbrev pub invariant-loop-item : goal.invariant-loop-item
invariant-loop-item l = with_items l.ids l.unit [] l.items ≡ with_items l.ids l.unit l.symbols (drop l.item-index l.items)
