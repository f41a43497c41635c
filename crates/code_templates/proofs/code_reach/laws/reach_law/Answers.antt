use Rattle.code_templates.proofs.code_reach.Pieces.{routine_reaches}
use Rattle.code_templates.proofs.code_reach.laws.reach_law.Goals as goal

pub returns : goal.returns
returns c = routine_reaches
