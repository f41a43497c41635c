use Rattle.resident_machine.proofs.machine_lines.Example.{swaps}
use Rattle.resident_machine.proofs.machine_lines.laws.example_law.Goals as goal

pub returns : goal.returns
returns c = swaps
