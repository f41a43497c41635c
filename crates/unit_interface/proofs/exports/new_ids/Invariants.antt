use Rattle.std.proofs.Common.{◌≡◌, ◌≤◌}
use Rattle.unit_interface.specs.Exports.{kept_before, new_ids}
use Rattle.unit_interface.proofs.exports.new_ids.Given as goal

abbrev pub invariant-loop-number : goal.invariant-loop-number
invariant-loop-number l = record {
  ids : l.ids ≡ new_ids l.reached l.number;
  next : l.next ≡ kept_before l.reached l.number;
  room : l.next ≤ l.number;
}
