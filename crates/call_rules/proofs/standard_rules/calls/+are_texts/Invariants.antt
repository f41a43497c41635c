use Rattle.std.proofs.Common.{length}
use Rattle.call_rules.proofs.standard_rules.calls.+are_texts.Given as goal

abbrev pub decreases-are_texts : goal.decreases-are_texts
decreases-are_texts l = length l.values.now
