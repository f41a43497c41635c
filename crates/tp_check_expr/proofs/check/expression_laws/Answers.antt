use Rattle.typing_rules.proofs.JudgementLaws.{exact}
use Rattle.tp_check_expr.specs.Typed.{judged}
use Rattle.tp_check_expr.proofs.TypedLaws.{lawful}
use Rattle.tp_check_expr.proofs.check.expression_laws.Goals as goal

pub returns : goal.returns
returns c = λ g. exact (judged g) (lawful g)
