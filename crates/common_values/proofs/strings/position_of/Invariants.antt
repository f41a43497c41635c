use Rattle.std.proofs.Common.{◌≡◌, ◌+◌, drop}
use Rattle.common_values.specs.Strings.{place_from}
use Rattle.common_values.proofs.strings.position_of.Given as goal

abbrev pub invariant-loop-i : goal.invariant-loop-i
invariant-loop-i l = place_from (l.i + 1) l.part (drop l.i l.text) ≡ place_from 1 l.part l.text
