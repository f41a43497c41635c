use Rattle.imported_types_agree.proofs.well_scoped.Beginning.{first_complete}
use Rattle.imported_types_agree.proofs.well_scoped.Using.{interface_complete, use_complete, uses_complete}
use Rattle.imported_types_agree.proofs.well_scoped.Showing.{shown_closed}
use Rattle.imported_types_agree.proofs.well_scoped.laws.scope_laws.Goals as goal

pub returns : goal.returns
returns c = record { first = first_complete; interface = interface_complete; used = use_complete; all_used = uses_complete; shown = shown_closed }
