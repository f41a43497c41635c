use Rattle.std.specs.Option.{option_map}
use Rattle.typed_tree.specs.Expressions.{view_expr, view_boxed}
use Rattle.call_rules.proofs.procedure_rules.Nodes.{told_gives}
use Rattle.call_rules.proofs.procedure_rules.calls.told_into.Goals as goal

pub returns : goal.returns
returns c =
    told_gives c.args.types.now.types c.args.place (view_expr c.args.number) (option_map view_boxed c.args.width) (view_expr c.args.to) c.in_ok-args.args c.in_ok-to.to c.push.new.self
    c.in_ok-args.ensures c.in_ok-to.ensures c.in_ok-push.ensures.items
