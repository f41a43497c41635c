use Rattle.std.proofs.Common.{length}
use Rattle.call_rules.proofs.set_rules.sets.+are_items.Given as goal

abbrev pub decreases-are_items : goal.decreases-are_items
decreases-are_items l = length l.items.now
