use Rattle.typing_rules.proofs.JudgementLaws.{exact}
use Rattle.declaration_checker.specs.type_denoters.Denoters.{judged}
use Rattle.declaration_checker.proofs.type_denoters.DenoterLaws.{lawful}
use Rattle.declaration_checker.proofs.type_denoters.laws.denoter_laws.Goals as goal

pub returns : goal.returns
returns c = λ on g. exact (judged on g) (lawful on g)
