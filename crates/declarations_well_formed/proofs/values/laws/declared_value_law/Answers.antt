use Rattle.declarations_well_formed.proofs.values.Given.{part_gives}
use Rattle.declarations_well_formed.proofs.values.laws.declared_value_law.Goals as goal

pub returns : goal.returns
returns c = part_gives c.closing_laws.ensures.closed
