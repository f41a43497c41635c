use Rattle.interpreter.proofs.Measured.{measured_more}
use Rattle.interpreter.proofs.evaluation.variable_measured.Goals as goal

pub returns-in-len2-up : goal.returns-in-len2-up
returns-in-len2-up c = λ p again f other. measured_more p again f c.args.number c.args.args.now other c.in-len2-up.len_at_least
