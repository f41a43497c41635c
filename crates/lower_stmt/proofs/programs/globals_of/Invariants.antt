use Rattle.std.proofs.Common.{◌≡◌, length}
use Rattle.lower_stmt.proofs.programs.globals_of.Given as goal

abbrev pub invariant-units : goal.invariant-units
invariant-units l = length l.globals.items ≡ length l.yielded
