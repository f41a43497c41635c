use Rattle.resident_machine.proofs.machine_lines.Straight.{line}
use Rattle.resident_machine.proofs.machine_lines.laws.line_law.Goals as goal

pub returns : goal.returns
returns c = line
