use Rattle.rules_well_formed.proofs.procedures.Rows.{performed_typed}
use Rattle.rules_well_formed.proofs.procedures.Told.{told_typed}
use Rattle.rules_well_formed.proofs.procedures.laws.procedure_node_laws.Goals as goal

pub returns : goal.returns
returns c = λ s sound. record { performed = performed_typed s sound; told = told_typed s sound }
