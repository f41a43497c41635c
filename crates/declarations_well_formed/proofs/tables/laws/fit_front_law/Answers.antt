use Rattle.declarations_well_formed.proofs.tables.Fits.{fit_front}
use Rattle.declarations_well_formed.proofs.tables.laws.fit_front_law.Goals as goal

pub returns : goal.returns
returns c = fit_front
