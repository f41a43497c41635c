use Rattle.programs_well_formed.proofs.imported_interfaces.Own.{own_keeps}
use Rattle.programs_well_formed.proofs.imported_interfaces.laws.own_use_law.Goals as goal

pub returns : goal.returns
returns c = own_keeps c.constant_value_law.ensures.kept
