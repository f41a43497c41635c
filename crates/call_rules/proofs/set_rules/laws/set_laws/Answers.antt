use Rattle.call_rules.proofs.set_rules.SetLaws.{lawful_constructed}
use Rattle.call_rules.proofs.set_rules.laws.set_laws.Goals as goal

pub returns : goal.returns
returns c = λ types place checked items. lawful_constructed types place checked items
