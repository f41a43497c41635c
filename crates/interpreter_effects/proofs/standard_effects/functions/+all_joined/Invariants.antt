-- The list gets shorter.
use Rattle.std.proofs.Common.{length}
use Rattle.interpreter_effects.proofs.standard_effects.functions.+all_joined.Given as goal

abbrev pub decreases-all_joined : goal.decreases-all_joined
decreases-all_joined l = length l.args.now
