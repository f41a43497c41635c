use Rattle.std.proofs.Common.{Some, refl}
use Rattle.call_rules.proofs.allocation_rules.Nodes.{blank_node}
use Rattle.call_rules.proofs.allocation_rules.constructors.blank_node.Goals as goal

pub returns : goal.returns
returns c = blank_node (Some c.args.ty) c.new-args.result c.new-args.ensures.items
