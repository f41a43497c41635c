use Rattle.interfaces_consistent.proofs.interfaces.Inherited.{each_told, scopes_told, scopes_home, uses_fitting}
use Rattle.interfaces_consistent.proofs.interfaces.Mismatches.{none_misfits, never_mismatched, only_memory}
use Rattle.interfaces_consistent.proofs.interfaces.laws.consistent_interface_laws.Goals as goal

pub returns-clause-told : goal.returns-clause-told
returns-clause-told c = record { uses = each_told; scopes = scopes_told; home = scopes_home; fit = uses_fitting }

pub returns-clause-fitting : goal.returns-clause-fitting
returns-clause-fitting c = none_misfits

pub returns-clause-folders : goal.returns-clause-folders
returns-clause-folders c = never_mismatched

pub returns-clause-complete : goal.returns-clause-complete
returns-clause-complete c = only_memory
