use Rattle.std.proofs.Common.{◌≡◌, ◌/◌, map}
use Rattle.std.specs.List.{range_with_len}
use Rattle.common_values.specs.Sets.{set_byte}
use Rattle.common_values.proofs.sets.set_bytes.Given as goal

abbrev pub invariant-loop-offset : goal.invariant-loop-offset
invariant-loop-offset l = l.bytes.items ≡ map (set_byte l.set) (range_with_len (l.low / 8) l.offset)
