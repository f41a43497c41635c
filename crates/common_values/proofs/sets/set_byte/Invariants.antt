use Rattle.std.proofs.Common.{◌≡◌}
use Rattle.common_values.specs.Sets.{low_bits}
use Rattle.common_values.proofs.sets.set_byte.Given as goal

abbrev pub invariant-loop-i : goal.invariant-loop-i
invariant-loop-i l = l.bits ≡ low_bits l.set l.byte l.i
