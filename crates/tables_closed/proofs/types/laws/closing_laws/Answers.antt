use Rattle.tables_closed.proofs.types.Closing.{type_closed, part_closed, type_ordered}
use Rattle.tables_closed.proofs.types.Keeping.{promises_kept}
use Rattle.tables_closed.proofs.types.Parts.{part_ordered}
use Rattle.tables_closed.proofs.types.laws.closing_laws.Goals as goal

pub returns-clause-closed : goal.returns-clause-closed
returns-clause-closed c = record { type = type_closed; part = part_closed }

pub returns-clause-promises : goal.returns-clause-promises
returns-clause-promises c = promises_kept

pub returns-clause-ordered : goal.returns-clause-ordered
returns-clause-ordered c = record { type = type_ordered; part = part_ordered }
