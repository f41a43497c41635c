use Rattle.std.proofs.Common.{◌≡◌, Some, true, map, sym, ◌∙◌}
use Rattle.call_rules.specs.set_rules.Bases.{set_over}
use Rattle.call_rules.specs.set_rules.Sets.{view_item, are_items, ranged_item}
use Rattle.call_rules.proofs.set_rules.Nodes.{over_gives}
use Rattle.call_rules.proofs.set_rules.sets.constructed_over.Goals as goal

pub returns-in_ok-elements-in-Some : goal.returns-in_ok-elements-in-Some
returns-in_ok-elements-in-Some c =
    let types = c.args.types.now.types in
    let items = map view_item c.args.items.items in
    let a = rw c.as_slice.ensures.value at c.are_items.ensures in
    let h : are_items types c.args.sort items ≡ true = cc (a, c.if-not-are_items.false) in
    let o : set_over types c.args.sort ≡ Some c.in-Some.ty = sym c.set_over.ensures ∙ c.in-Some.is in
    let g = c.in_ok-elements-in-Some.ensures in
    let m : map (ranged_item c.args.checked) items ≡ map view_item c.in_ok-elements-in-Some.elements.items = cc g in
    over_gives types c.args.place c.args.checked c.args.sort c.in-Some.ty items c.in_ok-elements-in-Some.elements h o m
