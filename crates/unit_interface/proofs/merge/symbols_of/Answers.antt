use Rattle.unit_interface.proofs.MergeLaws.{items-end}
use Rattle.unit_interface.proofs.merge.symbols_of.Goals as goal

pub returns : goal.returns
returns c = items-end c.args.ids.now c.args.unit c.args.items.now c.loop-item.symbols c.loop-item.item-index c.loop-item-test.false c.loop-item.invariant
