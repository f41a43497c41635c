use Rattle.code_relocation.proofs.Raising.{raised}
use Rattle.code_relocation.proofs.raising_law.Goals as goal

pub returns : goal.returns
returns c = raised
