use Rattle.call_rules.proofs.CallLaws.{lawful_cast, lawful_given, lawful_called, lawful_performed}
use Rattle.call_rules.proofs.laws.call_laws.Goals as goal

pub returns : goal.returns
returns c = record {
  cast = λ types place ty es. lawful_cast types place ty es;
  given = λ types place checked params es. lawful_given types place checked params es;
  called = λ types place checked routine header es. lawful_called types place checked routine header es;
  performed = λ types place checked routine header es. lawful_performed types place checked routine header es;
}
