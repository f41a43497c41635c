use Rattle.rt_strings.proofs.set_constructors.Including.{includes}
use Rattle.rt_strings.proofs.set_constructors.constructor_laws.Goals as goal

pub returns : goal.returns
returns c = includes
