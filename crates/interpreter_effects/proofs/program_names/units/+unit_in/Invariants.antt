-- The list gets shorter.
use Rattle.std.proofs.Common.{length}
use Rattle.interpreter_effects.proofs.program_names.units.+unit_in.Given as goal

abbrev pub decreases-unit_in : goal.decreases-unit_in
decreases-unit_in l = length l.units.now
