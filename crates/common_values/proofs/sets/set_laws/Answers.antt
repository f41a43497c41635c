use Rattle.common_values.proofs.SetLemmas.{element_laws, subset_laws, byte_laws}
use Rattle.common_values.proofs.sets.set_laws.Goals as goal

pub returns-clause-elements : goal.returns-clause-elements
returns-clause-elements c = element_laws

pub returns-clause-subsets : goal.returns-clause-subsets
returns-clause-subsets c = subset_laws

pub returns-clause-bytes : goal.returns-clause-bytes
returns-clause-bytes c = byte_laws
