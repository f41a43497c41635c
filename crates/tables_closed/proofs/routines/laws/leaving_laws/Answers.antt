use Rattle.tables_closed.proofs.routines.Staying.{grown_closed}
use Rattle.tables_closed.proofs.routines.Routing.{heading_stays, all_stay}
use Rattle.tables_closed.proofs.routines.laws.leaving_laws.Goals as goal

pub returns : goal.returns
returns c = record {
  header = λ far site d one made e closed. grown_closed d.scope made.scope (heading_stays far site d one made e) closed;
  declarations = λ unit site s all made e closed. grown_closed s.draft.scope made.draft.scope (all_stay unit site s all made e) closed;
  ordered = λ unit site s all made e o. (all_stay unit site s all made e).ordered o;
}
