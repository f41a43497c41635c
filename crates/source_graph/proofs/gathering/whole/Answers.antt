use Rattle.source_graph.proofs.WholeLaws.{is_whole}
use Rattle.source_graph.proofs.gathering.whole.Goals as goal

pub returns : goal.returns
returns c = is_whole
