use Rattle.code_templates.proofs.code_references.Placed.{routine-makes}
use Rattle.code_templates.proofs.code_references.laws.placed_law.Goals as goal

pub returns : goal.returns
returns c = routine-makes
