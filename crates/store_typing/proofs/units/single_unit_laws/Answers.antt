use Rattle.store_typing.proofs.units.Single.{single_agrees}
use Rattle.store_typing.proofs.units.single_unit_laws.Goals as goal

pub returns : goal.returns
returns c = single_agrees
