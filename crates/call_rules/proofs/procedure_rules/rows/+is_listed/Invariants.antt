use Rattle.std.proofs.Common.{length}
use Rattle.call_rules.proofs.procedure_rules.rows.+is_listed.Given as goal

abbrev pub decreases-is_listed : goal.decreases-is_listed
decreases-is_listed l = length l.numbers.now
