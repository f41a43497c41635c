use Rattle.call_rules.proofs.procedural_rules.ProceduralLaws.{lawful_held_routine, lawful_called_through, lawful_performed_through, lawful_settled, lawful_routine_value}
use Rattle.call_rules.proofs.procedural_rules.laws.procedural_laws.Goals as goal

pub returns : goal.returns
returns c = record {
  held_routine = λ types place e. lawful_held_routine types place e;
  called_through = λ types place checked one es. lawful_called_through types place checked one es;
  performed_through = λ types place checked one es. lawful_performed_through types place checked one es;
  settled = λ types place e. lawful_settled types place e;
  routine_value = λ g place fault ty routine level header far. lawful_routine_value g place fault ty routine level header far;
}
