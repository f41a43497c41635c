use Rattle.std.proofs.Common.{◌≡◌, length}
use Rattle.lower_stmt.proofs.programs.classes_of.Given as goal

abbrev pub invariant-loop-unit : goal.invariant-loop-unit
invariant-loop-unit l = length l.all.items ≡ l.unit-index
