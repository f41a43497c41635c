use Rattle.store_typing.proofs.standard.Calls.{standard_laws}
use Rattle.store_typing.proofs.standard.sound_standard_laws.Goals as goal

pub returns : goal.returns
returns c = λ w store agreed closed typed. standard_laws w agreed closed store typed
