use Rattle.bodies_well_formed.proofs.statements.Checked.{stated_well}
use Rattle.bodies_well_formed.proofs.statements.laws.checked_statement_law.Goals as goal

pub returns : goal.returns
returns c = λ g s agrees task one literals room h. stated_well task g s agrees one literals room h
