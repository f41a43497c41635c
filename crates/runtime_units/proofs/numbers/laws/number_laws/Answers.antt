use Rattle.runtime_units.proofs.numbers.Keys.{in_unit, in_overlay}
use Rattle.runtime_units.proofs.numbers.laws.number_laws.Goals as goal

pub returns-clause-routines : goal.returns-clause-routines
returns-clause-routines c = in_unit

pub returns-clause-globals : goal.returns-clause-globals
returns-clause-globals c = in_overlay
