use Rattle.type_soundness.proofs.statements.Statements.{task_ends}
use Rattle.type_soundness.proofs.statements.sound_statement_laws.Goals as goal

pub returns : goal.returns
returns c = λ program again well calls sound. task_ends program well again calls sound
