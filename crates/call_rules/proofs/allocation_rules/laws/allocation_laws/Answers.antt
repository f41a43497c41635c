use Rattle.call_rules.proofs.allocation_rules.AllocationLaws.{lawful_blank, lawful_constructor, lawful_made, lawful_newly, lawful_destructor, lawful_unmade}
use Rattle.call_rules.proofs.allocation_rules.laws.allocation_laws.Goals as goal

pub returns : goal.returns
returns c = record {
  blank = λ types place ty. lawful_blank types place ty;
  constructor = λ g place ty name. lawful_constructor g place ty name;
  made = λ types place checked ty one es. lawful_made types place checked ty one es;
  newly_made = λ place e. lawful_newly place e;
  destructor_of = λ g place e name. lawful_destructor g place e name;
  unmade = λ types place checked e one es. lawful_unmade types place checked e one es;
}
