use Rattle.std.proofs.Common.{sym}
use Rattle.common_values.proofs.OrdinalLemmas.{right_out, counts}
use Rattle.common_values.proofs.ordinals.right_shift.Goals as goal

pub returns-else-places-bits : goal.returns-else-places-bits
returns-else-places-bits c = sym (right_out c.args.kind c.args.value c.args.count (counts c.args.kind c.args.count _ _ c.ranges.count c.shift_count-places.ensures c.bits.ensures c.if-places-bits.false))
