use Rattle.call_rules.proofs.allocation_rules.Nodes.{unmake_node}
use Rattle.call_rules.proofs.allocation_rules.destructors.unmake_node.Goals as goal

pub returns : goal.returns
returns c = unmake_node c.args.pointer c.args.destructor c.args.args
