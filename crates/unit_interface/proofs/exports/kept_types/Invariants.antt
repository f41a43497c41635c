use Rattle.std.proofs.Common.{◌≡◌}
use Rattle.unit_interface.specs.Exports.{kept}
use Rattle.unit_interface.proofs.exports.kept_types.Given as goal

abbrev pub invariant-loop-number : goal.invariant-loop-number
invariant-loop-number l = l.types ≡ kept l.own l.reached l.ids l.number
