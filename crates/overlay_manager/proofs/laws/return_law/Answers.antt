use Rattle.overlay_manager.proofs.KeptLaws.{kept, kept-twice}
use Rattle.overlay_manager.proofs.laws.return_law.Goals as goal

pub returns-clause-once : goal.returns-clause-once
returns-clause-once c = kept

pub returns-clause-twice : goal.returns-clause-twice
returns-clause-twice c = kept-twice
