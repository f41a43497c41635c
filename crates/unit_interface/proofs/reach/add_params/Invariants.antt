use Rattle.std.proofs.Common.{◌≡◌, ◌++◌, drop}
use Rattle.unit_interface.specs.Exports.{in_params}
use Rattle.unit_interface.proofs.reach.add_params.Given as goal

abbrev pub invariant-loop-param : goal.invariant-loop-param
invariant-loop-param l = l.initial.numbers ++ in_params l.params ≡ l.numbers ++ in_params (drop l.param-index l.params)
