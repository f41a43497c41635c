use Rattle.std.proofs.Common.{map, sym, ◌∙◌}
use Rattle.call_rules.specs.set_rules.Sets.{view_item}
use Rattle.call_rules.proofs.set_rules.Nodes.{empty_gives, first_gives}
use Rattle.call_rules.proofs.set_rules.sets.constructed.Goals as goal

pub returns-in-None : goal.returns-in-None
returns-in-None c =
    let f = rw c.as_slice.ensures.value at c.first_sort.ensures in
    empty_gives c.args.types.now.types c.args.place c.args.checked c.args.items (sym f ∙ c.in-None.is)

pub returns-in-Some : goal.returns-in-Some
returns-in-Some c =
    let f = rw c.as_slice.ensures.value at c.first_sort.ensures in
    rw (first_gives c.args.types.now.types c.args.place c.args.checked c.in-Some.sort (map view_item c.args.items.items) (sym f ∙ c.in-Some.is)) c.constructed_over.ensures
