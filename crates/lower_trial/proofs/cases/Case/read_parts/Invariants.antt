use Rattle.std.proofs.Common.{length}
use Rattle.lower_trial.proofs.cases.Case.read_parts.Given as goal

abbrev pub decreases-parts : goal.decreases-parts
decreases-parts l = length l.rest
