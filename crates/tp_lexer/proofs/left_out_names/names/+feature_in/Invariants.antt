use Rattle.std.proofs.Common.{length}
use Rattle.tp_lexer.proofs.left_out_names.names.+feature_in.Given as goal

abbrev pub decreases-feature_in : goal.decreases-feature_in
decreases-feature_in l = length l.rows.now
