use Rattle.declarations_well_formed.proofs.exported_constants.Faithful.{shown_move}
use Rattle.declarations_well_formed.proofs.exported_constants.laws.shown_constant_law.Goals as goal

pub returns : goal.returns
returns c = shown_move
