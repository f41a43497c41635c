use Rattle.std.proofs.Common.{◌≡◌, ◌≤◌, ◌+◌}
use Rattle.std.specs.Prelude.{min, drop}
use Rattle.programs_well_typed.specs.programs.Below.{interface_variables}
use Rattle.checked_front_end.proofs.variables.interface_variables.Given as goal

abbrev pub invariant-loop-one : goal.invariant-loop-one
invariant-loop-one l = (l.count ≤ 18446744073709551615) × (min (l.count + interface_variables (drop l.one-index l.all)) 18446744073709551615 ≡ min (interface_variables l.all) 18446744073709551615)
