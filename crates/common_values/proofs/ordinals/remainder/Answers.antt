use Rattle.common_values.proofs.OrdinalLemmas.{remainder_from}
use Rattle.common_values.proofs.ordinals.remainder.Goals as goal

pub returns : goal.returns
returns c = remainder_from c.args.kind c.args.a c.args.b c.quotient.result c.from.result c.product.result c.kept.result c.ranges.a c.ranges.b (record { sfits = c.quotient.type_inv }) (record { sfits = c.kept.type_inv }) c.from.ensures c.quotient.ensures c.product.ensures.value c.product.ensures.small c.kept.ensures
