use Rattle.resident_machine.proofs.RunLaws.{runs_alike}
use Rattle.resident_machine.proofs.laws.resident_law.Goals as goal

pub returns : goal.returns
returns c = λ p n r t q none. runs_alike p none n r t q
