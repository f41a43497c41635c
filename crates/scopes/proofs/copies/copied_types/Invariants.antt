use Rattle.std.proofs.Common.{◌≡◌, take}
use Rattle.scopes.specs.Growth.{empty, grown, additions}
use Rattle.scopes.proofs.copies.copied_types.Given as goal

abbrev pub invariant-loop-number : goal.invariant-loop-number
invariant-loop-number l = l.copy ≡ grown empty (take l.number (additions l.types))
