use Rattle.unit_references.proofs.methods.Whole.{has_methods}
use Rattle.unit_references.proofs.methods.declared_method_laws.Goals as goal

pub returns : goal.returns
returns c = λ program agreed lawful. has_methods program agreed lawful
