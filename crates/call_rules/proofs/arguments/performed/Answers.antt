use Rattle.std.proofs.Common.{map}
use Rattle.typed_tree.specs.Expressions.{view_expr}
use Rattle.call_rules.proofs.Nodes.{performed_gives}
use Rattle.call_rules.proofs.arguments.performed.Goals as goal

pub returns-in_ok-args-in-None : goal.returns-in_ok-args-in-None
returns-in_ok-args-in-None c =
    let h = rw c.as_slice.ensures at c.in_ok-args-in-None.ensures in
    performed_gives c.args.types.now.types c.args.place c.args.checked c.args.routine c.args.header.now (map view_expr c.args.values.items) c.in_ok-args-in-None.args c.in-None.is h
