use Rattle.std.proofs.Common.{◌≡◌, take}
use Rattle.source_graph.specs.source_order.Orders.{all_uses}
use Rattle.source_graph.proofs.source_order.order.all_uses.Given as goal

abbrev pub invariant-loop-source : goal.invariant-loop-source
invariant-loop-source l = l.all.items ≡ all_uses (take l.source-index l.sources)
