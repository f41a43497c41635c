use Rattle.resident_machine.proofs.machine_lines.Divide.{divides}
use Rattle.resident_machine.proofs.machine_lines.laws.divide_law.Goals as goal

pub returns : goal.returns
returns c = divides
