use Rattle.std.proofs.Common.{length}
use Rattle.declaration_checker.proofs.type_denoters.enumerations.+enter_values.Given as goal

abbrev pub decreases-enter_values : goal.decreases-enter_values
decreases-enter_values l = length l.names.now
