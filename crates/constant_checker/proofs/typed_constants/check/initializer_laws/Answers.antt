use Rattle.typing_rules.proofs.JudgementLaws.{exact}
use Rattle.constant_checker.specs.typed_constants.Initializers.{first_value}
use Rattle.constant_checker.proofs.typed_constants.InitializerLaws.{lawful}
use Rattle.constant_checker.proofs.typed_constants.Sizes.{whole}
use Rattle.constant_checker.proofs.typed_constants.check.initializer_laws.Goals as goal

pub returns-clause-exact : goal.returns-clause-exact
returns-clause-exact c = λ g place ty. exact (first_value g place ty) (lawful g place ty)

pub returns-clause-whole : goal.returns-clause-whole
returns-clause-whole c = whole
