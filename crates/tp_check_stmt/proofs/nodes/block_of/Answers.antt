use Rattle.tp_check_stmt.proofs.NodeViews.{block_viewed}
use Rattle.tp_check_stmt.proofs.nodes.block_of.Goals as goal

pub returns : goal.returns
returns c = block_viewed c.args.statements
