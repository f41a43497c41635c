use Rattle.common_values.proofs.OrdinalLemmas.{quotient_is}
use Rattle.common_values.proofs.ordinals.quotient.Goals as goal

pub returns : goal.returns
returns c = quotient_is c.args.kind c.args.a c.args.b _ _ _ c.ranges.a c.ranges.b (record { sfits = c.kept.type_inv }) c.from.ensures c.from-2.ensures c.kept.ensures
