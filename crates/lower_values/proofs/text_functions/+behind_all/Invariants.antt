use Rattle.std.proofs.Common.{length}
use Rattle.lower_values.proofs.text_functions.+behind_all.Given as goal

abbrev pub decreases-behind_all : goal.decreases-behind_all
decreases-behind_all l = length l.args.now
