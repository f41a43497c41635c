use Rattle.std.proofs.Common.{length}
use Rattle.lower_values.proofs.text_functions.+chained.Given as goal

abbrev pub decreases-chained : goal.decreases-chained
decreases-chained l = length l.args.now
