use Rattle.std.proofs.Common.{◌≡◌, take}
use Rattle.unit_interface.specs.Exports.{known}
use Rattle.unit_interface.proofs.reach.known.Given as goal

abbrev pub invariant-loop-number : goal.invariant-loop-number
invariant-loop-number l = l.some ≡ known l.count (take l.number-index l.numbers)
