use Rattle.typing_rules.proofs.JudgementLaws.{exact}
use Rattle.tp_check_stmt.specs.Typed.{stated}
use Rattle.tp_check_stmt.proofs.StatementLaws.{lawful}
use Rattle.tp_check_stmt.proofs.check.statement_laws.Goals as goal

pub returns : goal.returns
returns c = λ g. exact (stated g) (lawful g)
