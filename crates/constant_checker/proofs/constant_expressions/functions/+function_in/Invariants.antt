use Rattle.std.proofs.Common.{length}
use Rattle.constant_checker.proofs.constant_expressions.functions.+function_in.Given as goal

abbrev pub decreases-function_in : goal.decreases-function_in
decreases-function_in l = length l.rows.now
