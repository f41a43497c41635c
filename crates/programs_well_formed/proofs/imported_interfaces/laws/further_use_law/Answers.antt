use Rattle.programs_well_formed.proofs.imported_interfaces.Further.{further_keeps}
use Rattle.programs_well_formed.proofs.imported_interfaces.laws.further_use_law.Goals as goal

pub returns : goal.returns
returns c = further_keeps c.scope_laws.ensures c.constant_value_law.ensures.kept
