use Rattle.runtime_proofs.proofs.strings_in_memory.Cells.{bytes-front, laid-has}
use Rattle.runtime_proofs.proofs.strings_in_memory.move_laws.Goals as goal

pub returns-clause-front : goal.returns-clause-front
returns-clause-front c = bytes-front

pub returns-clause-laid : goal.returns-clause-laid
returns-clause-laid c = laid-has
