use Rattle.declarations_well_formed.proofs.tables.Sound.{sound}
use Rattle.declarations_well_formed.proofs.tables.laws.sound_table_law.Goals as goal

pub returns : goal.returns
returns c = sound
