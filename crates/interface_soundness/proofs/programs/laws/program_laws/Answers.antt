use Rattle.interface_soundness.proofs.programs.Programs.{one_program, complete}
use Rattle.interface_soundness.proofs.programs.Missing.{none_missing}
use Rattle.interface_soundness.proofs.programs.Closing.{interfaces, uses, scopes, units, closed_units, shows_alike}
use Rattle.interface_soundness.proofs.programs.laws.program_laws.Goals as goal

pub returns-clause-one : goal.returns-clause-one
returns-clause-one c = one_program

pub returns-clause-complete : goal.returns-clause-complete
returns-clause-complete c = complete

pub returns-clause-present : goal.returns-clause-present
returns-clause-present c = none_missing

pub returns-clause-closed : goal.returns-clause-closed
returns-clause-closed c = record { interfaces = interfaces; uses = uses; scopes = scopes; units = units }

pub returns-clause-units : goal.returns-clause-units
returns-clause-units c = closed_units

pub returns-clause-shown : goal.returns-clause-shown
returns-clause-shown c = shows_alike c.table_laws.ensures.alike
