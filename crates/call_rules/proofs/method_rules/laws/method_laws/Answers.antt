use Rattle.call_rules.proofs.method_rules.MethodLaws.{lawful_bound, lawful_inherited, lawful_called, lawful_performed}
use Rattle.call_rules.proofs.method_rules.laws.method_laws.Goals as goal

pub returns : goal.returns
returns c = record {
  bound = λ g place e name. lawful_bound g place e name;
  inherited = λ g here place class at ancestor name. lawful_inherited g place here class at ancestor name;
  called_on = λ types place checked one es. lawful_called types place checked one es;
  performed_on = λ types place checked one es. lawful_performed types place checked one es;
}
