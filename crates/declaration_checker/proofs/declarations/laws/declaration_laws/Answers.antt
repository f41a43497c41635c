use Rattle.typing_rules.proofs.JudgementLaws.{exact}
use Rattle.declaration_checker.specs.declarations.Parts.{part_declared}
use Rattle.declaration_checker.proofs.declarations.PartLaws.{lawful_declared}
use Rattle.declaration_checker.proofs.declarations.laws.declaration_laws.Goals as goal

pub returns : goal.returns
returns c = λ unit home next p. exact (part_declared unit home next p) (lawful_declared unit home next p)
