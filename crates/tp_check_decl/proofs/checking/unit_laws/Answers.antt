use Rattle.typing_rules.proofs.JudgementLaws.{exact}
use Rattle.tp_check_decl.specs.Checked.{judged}
use Rattle.tp_check_decl.proofs.CheckLaws.{lawful}
use Rattle.tp_check_decl.proofs.checking.unit_laws.Goals as goal

pub returns : goal.returns
returns c = λ name says g have. exact (judged name says g have) (lawful name says g have)
