use Rattle.std.proofs.Common.{Ok, ap}
use Rattle.typed_tree.specs.Expressions.{Expression}
use Rattle.call_rules.proofs.procedural_rules.Nodes.{through_node}
use Rattle.call_rules.proofs.procedural_rules.through.through_node.Goals as goal

pub returns : goal.returns
returns c =
    ap (λ (n : Expression). Ok n) (through_node c.args.ty c.in_ok-place.place c.args.at c.args.args c.in_ok-place.ensures.ok)
