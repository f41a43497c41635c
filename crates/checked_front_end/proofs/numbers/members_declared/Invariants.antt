use Rattle.std.proofs.Common.{◌≡◌}
use Rattle.std.specs.Prelude.{min, take}
use Rattle.checked_front_end.specs.Numbers.{members_declared}
use Rattle.checked_front_end.proofs.numbers.members_declared.Given as goal

abbrev pub invariant-loop-number : goal.invariant-loop-number
invariant-loop-number l = l.count ≡ min (members_declared (take l.number l.types.types)) 18446744073709551615
