use Rattle.common_values.proofs.OrdinalLemmas.{storage_laws, operator_laws}
use Rattle.common_values.proofs.ordinals.ordinal_laws.Goals as goal

pub returns-clause-storage : goal.returns-clause-storage
returns-clause-storage c = storage_laws

pub returns-clause-operators : goal.returns-clause-operators
returns-clause-operators c = operator_laws
