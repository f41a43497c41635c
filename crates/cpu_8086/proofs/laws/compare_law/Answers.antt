use Rattle.cpu_8086.proofs.CompareLaws.{compare_decides}
use Rattle.cpu_8086.proofs.laws.compare_law.Goals as goal

pub returns : goal.returns
returns c = compare_decides
