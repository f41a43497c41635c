use Rattle.tp_check_decl.specs.Interfaces.{items_in}
use Rattle.tp_check_decl.proofs.ItemSteps.{item_more}
use Rattle.tp_check_decl.proofs.items.items_in.Goals as goal

pub loop-place-preserved : goal.loop-place-preserved
loop-place-preserved c =
    let at = c.loop-place in
    let symbols = c.args.symbols.now in
    item_more symbols at.place c.at.result.0.now c.at.result.1.now at.items c.add_item.new.items (items_in symbols) c.at.ensures at.invariant c.in_ok-add_item.ensures
