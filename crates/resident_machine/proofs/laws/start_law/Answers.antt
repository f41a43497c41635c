use Rattle.resident_machine.proofs.StartLaws.{start_stands}
use Rattle.resident_machine.proofs.laws.start_law.Goals as goal

pub returns : goal.returns
returns c = start_stands
