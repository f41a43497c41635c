use Rattle.rules_well_formed.proofs.methods.Bound.{bound_typed, inherited_typed}
use Rattle.rules_well_formed.proofs.methods.Calls as methods
use Rattle.rules_well_formed.proofs.methods.Through.{held_typed, called_typed, performed_typed, settled_typed}
use Rattle.rules_well_formed.proofs.methods.laws.method_node_laws.Goals as goal

pub returns-clause-bound : goal.returns-clause-bound
returns-clause-bound c = λ g s has sound. record { bound = bound_typed g s has sound; inherited = inherited_typed g s has sound }

pub returns-clause-calls : goal.returns-clause-calls
returns-clause-calls c = λ s sound. record {
  called_on = λ place checked one es e bound operands h. methods.called_typed s sound place checked one es e bound operands h;
  performed_on = λ place checked one es e bound operands h. methods.performed_typed s sound place checked one es e bound operands h;
  held_routine = held_typed s sound;
  called_through = called_typed s sound;
  performed_through = performed_typed s sound;
  settled = settled_typed s sound;
}
