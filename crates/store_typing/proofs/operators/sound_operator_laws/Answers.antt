use Rattle.store_typing.proofs.operators.Operators.{operator_laws}
use Rattle.store_typing.proofs.operators.sound_operator_laws.Goals as goal

pub returns : goal.returns
returns c = operator_laws
