use Rattle.code_templates.proofs.code_lines.Weights.{expression_weighs, routine_weighs, routine_least}
use Rattle.code_templates.proofs.code_lines.laws.weight_law.Goals as goal

pub returns-clause-expression : goal.returns-clause-expression
returns-clause-expression c = expression_weighs

pub returns-clause-most : goal.returns-clause-most
returns-clause-most c = routine_weighs

pub returns-clause-least : goal.returns-clause-least
returns-clause-least c = routine_least
