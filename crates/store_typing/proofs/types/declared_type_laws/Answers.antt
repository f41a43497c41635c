use Rattle.store_typing.proofs.types.Lines.{agreement_laws}
use Rattle.store_typing.proofs.types.declared_type_laws.Goals as goal

pub returns : goal.returns
returns c = agreement_laws
