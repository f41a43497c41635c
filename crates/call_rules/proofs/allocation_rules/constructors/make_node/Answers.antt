use Rattle.call_rules.proofs.allocation_rules.Nodes.{make_node}
use Rattle.call_rules.proofs.allocation_rules.constructors.make_node.Goals as goal

pub returns : goal.returns
returns c = make_node c.args.ty c.args.routine c.args.args
