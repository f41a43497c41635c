use Rattle.std.proofs.Common.{◌≡◌, ◌≤◌, ◌+◌}
use Rattle.std.specs.Prelude.{min, drop}
use Rattle.programs_well_typed.specs.programs.Below.{names_in}
use Rattle.checked_front_end.proofs.variables.names_in.Given as goal

abbrev pub invariant-loop-one : goal.invariant-loop-one
invariant-loop-one l = (l.count ≤ 18446744073709551615) × (min (l.count + names_in (drop l.one-index l.all)) 18446744073709551615 ≡ min (names_in l.all) 18446744073709551615)
