use Rattle.std.proofs.Common.{◌≡◌, take}
use Rattle.source_graph.specs.source_order.Orders.{names_of}
use Rattle.source_graph.proofs.source_order.order.names_of.Given as goal

abbrev pub invariant-loop-unit : goal.invariant-loop-unit
invariant-loop-unit l = l.names ≡ names_of (take l.unit-index l.units)
