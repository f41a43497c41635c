use Rattle.declarations_well_formed.proofs.names.Types.{type_declares}
use Rattle.declarations_well_formed.proofs.names.Parts.{part_declares}
use Rattle.declarations_well_formed.proofs.names.laws.type_name_laws.Goals as goal

pub returns-clause-types : goal.returns-clause-types
returns-clause-types c = λ on g one made k. type_declares one on g made k

pub returns-clause-parts : goal.returns-clause-parts
returns-clause-parts c = part_declares
