use Rattle.programs_well_formed.proofs.imported_interfaces.Brought.{interface_brings}
use Rattle.programs_well_formed.proofs.imported_interfaces.laws.interface_law.Goals as goal

pub returns : goal.returns
returns c = interface_brings c.scope_laws.ensures
