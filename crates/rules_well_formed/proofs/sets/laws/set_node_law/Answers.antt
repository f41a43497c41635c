use Rattle.rules_well_formed.proofs.sets.Constructed.{constructed_typed}
use Rattle.rules_well_formed.proofs.sets.laws.set_node_law.Goals as goal

pub returns : goal.returns
returns c = λ s sound place checked items e operands h. constructed_typed s sound place checked items e operands h
