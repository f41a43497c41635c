use Rattle.typing_rules.proofs.JudgementLaws.{exact}
use Rattle.declaration_checker.specs.type_parts.Parts.{type_part}
use Rattle.declaration_checker.proofs.type_parts.PartLaws.{lawful_part_of}
use Rattle.declaration_checker.proofs.type_parts.laws.type_part_laws.Goals as goal

pub returns : goal.returns
returns c = λ unit next g. exact (type_part unit next g) (lawful_part_of unit next g)
