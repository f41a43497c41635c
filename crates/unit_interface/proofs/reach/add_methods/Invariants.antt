use Rattle.std.proofs.Common.{◌≡◌, ◌++◌, drop}
use Rattle.unit_interface.specs.Exports.{in_methods}
use Rattle.unit_interface.proofs.reach.add_methods.Given as goal

abbrev pub invariant-loop-method : goal.invariant-loop-method
invariant-loop-method l = l.initial.numbers ++ in_methods l.methods ≡ l.numbers ++ in_methods (drop l.method-index l.methods)
