use Rattle.source_graph.proofs.source_order.Reached.{in_order}
use Rattle.source_graph.proofs.source_order.order.all_in_order.Goals as goal

pub returns : goal.returns
returns c = in_order
