use Rattle.std.proofs.Common.{length}
use Rattle.call_rules.proofs.procedure_rules.rows.+slots_in.Given as goal

abbrev pub decreases-slots_in : goal.decreases-slots_in
decreases-slots_in l = length l.rows.now
