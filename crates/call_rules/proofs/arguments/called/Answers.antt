use Rattle.std.proofs.Common.{map}
use Rattle.typed_tree.specs.Expressions.{view_expr}
use Rattle.call_rules.proofs.Nodes.{called_gives}
use Rattle.call_rules.proofs.arguments.called.Goals as goal

pub returns-in_ok-args-in-Some : goal.returns-in_ok-args-in-Some
returns-in_ok-args-in-Some c =
    let h = rw c.as_slice.ensures at c.in_ok-args-in-Some.ensures in
    called_gives c.args.types.now.types c.args.place c.args.checked c.args.routine c.args.header.now (map view_expr c.args.values.items) c.in-Some.ty c.in_ok-args-in-Some.args c.in-Some.is h
