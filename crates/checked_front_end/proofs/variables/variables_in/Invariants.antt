use Rattle.std.proofs.Common.{◌≡◌, ◌≤◌, ◌+◌}
use Rattle.std.specs.Prelude.{min, drop}
use Rattle.tp_check_decl.specs.routines.Trees.{view_declarations}
use Rattle.programs_well_typed.specs.programs.Below.{variables_in}
use Rattle.checked_front_end.proofs.variables.variables_in.Given as goal

abbrev pub invariant-loop-one : goal.invariant-loop-one
invariant-loop-one l = (l.count ≤ 18446744073709551615) × (min (l.count + variables_in (view_declarations (drop l.one-index l.all))) 18446744073709551615 ≡ min (variables_in (view_declarations l.all)) 18446744073709551615)
