use Rattle.declarations_well_formed.proofs.constants.Kept.{constants_kept}
use Rattle.declarations_well_formed.proofs.constants.Constants.{constants_valued}
use Rattle.declarations_well_formed.proofs.constants.laws.constant_value_law.Goals as goal

pub returns : goal.returns
returns c = record { given = constants_valued; kept = constants_kept }
