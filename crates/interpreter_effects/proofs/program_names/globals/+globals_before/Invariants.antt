-- The list gets shorter.
use Rattle.std.proofs.Common.{length}
use Rattle.interpreter_effects.proofs.program_names.globals.+globals_before.Given as goal

abbrev pub decreases-globals_before : goal.decreases-globals_before
decreases-globals_before l = length l.units.now
