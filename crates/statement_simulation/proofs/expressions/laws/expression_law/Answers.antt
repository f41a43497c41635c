use Rattle.statement_simulation.proofs.expressions.Expressions.{expr_runs}
use Rattle.statement_simulation.proofs.expressions.laws.expression_law.Goals as goal

pub returns : goal.returns
returns c = expr_runs
