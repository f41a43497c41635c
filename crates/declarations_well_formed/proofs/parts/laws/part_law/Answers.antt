use Rattle.declarations_well_formed.proofs.parts.Parts.{part_adds}
use Rattle.declarations_well_formed.proofs.parts.laws.part_law.Goals as goal

pub returns : goal.returns
returns c = part_adds
