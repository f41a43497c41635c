use Rattle.call_rules.proofs.standard_rules.StandardLaws.{lawful_standard, lawful_sized}
use Rattle.call_rules.proofs.standard_rules.laws.standard_laws.Goals as goal

pub returns : goal.returns
returns c = record {
  standard = λ types place number es. lawful_standard types place number es;
  variable_sized = λ types place e. lawful_sized types place e;
}
