use Rattle.interface_soundness.proofs.tables.Ending.{outline_closed, interface_closed, unit_closed, is_closed}
use Rattle.interface_soundness.proofs.tables.laws.table_laws.Goals as goal

pub returns-clause-closed : goal.returns-clause-closed
returns-clause-closed c = record { outline = outline_closed; interface = interface_closed; unit = unit_closed }

pub returns-clause-alike : goal.returns-clause-alike
returns-clause-alike c = λ name says g have tree unit complete holds.
    let a = c.agreement_laws.ensures.agree name says g have tree unit (record { paired = complete.ordered.paired; known = complete.ordered.known }) holds in
    record {
      outline = a.outline;
      holds = a.holds;
      same = a.same (is_closed a.outline.types a.outline.items (outline_closed name says g tree a.outline complete a.holds));
    }
