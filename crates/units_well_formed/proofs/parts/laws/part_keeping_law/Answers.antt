use Rattle.units_well_formed.proofs.parts.Kept.{part_keeps}
use Rattle.units_well_formed.proofs.parts.laws.part_keeping_law.Goals as goal

pub returns : goal.returns
returns c = part_keeps c.declared_value_law.ensures
