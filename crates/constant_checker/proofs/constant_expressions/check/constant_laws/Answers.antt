use Rattle.typing_rules.proofs.JudgementLaws.{exact}
use Rattle.constant_checker.specs.constant_expressions.Constants.{judged}
use Rattle.constant_checker.proofs.constant_expressions.ConstantLaws.{lawful}
use Rattle.constant_checker.proofs.constant_expressions.SetLaws.{sets}
use Rattle.constant_checker.proofs.constant_expressions.check.constant_laws.Goals as goal

pub returns-clause-exact : goal.returns-clause-exact
returns-clause-exact c = λ g. exact (judged g) (lawful g)

pub returns-clause-sets : goal.returns-clause-sets
returns-clause-sets c = sets
