use Rattle.std.proofs.Common.{◌≡◌, length}
use Rattle.common_values.specs.Input.{after_line}
use Rattle.common_values.proofs.input.after_line.Given as goal

abbrev pub invariant-bytes : goal.invariant-bytes
invariant-bytes l = after_line l.rest ≡ after_line l.input

abbrev pub decreases-bytes : goal.decreases-bytes
decreases-bytes l = length l.rest
