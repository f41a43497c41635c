use Rattle.std.proofs.Common.{length}
use Rattle.call_rules.proofs.standard_rules.signatures.+signature_in.Given as goal

abbrev pub decreases-signature_in : goal.decreases-signature_in
decreases-signature_in l = length l.rows.now
