use Rattle.typing_rules.proofs.JudgementLaws.{typed_answer, complete_answer, fails_answer}
use Rattle.tp_check_decl.specs.Units.{view_unit}
use Rattle.tp_check_decl.specs.Checked.{judged}
use Rattle.tp_check_decl.proofs.CheckLaws.{lawful}
use Rattle.tp_check_decl.proofs.NameLaws.{named_answer}
use Rattle.tp_check_decl.proofs.UnitLaws.{initial_answer, small_answer}
use Rattle.tp_check_decl.proofs.checking.check.Goals as goal

pub returns-clause-typed : goal.returns-clause-typed
returns-clause-typed c =
    let a = c.args in
    rw c.answered.ensures (typed_answer view_unit (judged a.name.now a.says.now a.scope.now a.have.now a.tree.now) (lawful a.name.now a.says.now a.scope.now a.have.now a.tree.now) c.judged.result c.judged.ensures)

pub returns-clause-complete : goal.returns-clause-complete
returns-clause-complete c =
    let a = c.args in
    rw c.answered.ensures (complete_answer view_unit (judged a.name.now a.says.now a.scope.now a.have.now a.tree.now) (lawful a.name.now a.says.now a.scope.now a.have.now a.tree.now) c.judged.result c.judged.ensures)

pub returns-clause-fails : goal.returns-clause-fails
returns-clause-fails c =
    let a = c.args in
    rw c.answered.ensures (fails_answer view_unit (judged a.name.now a.says.now a.scope.now a.have.now a.tree.now) (lawful a.name.now a.says.now a.scope.now a.have.now a.tree.now) c.judged.result c.judged.ensures)

pub returns-clause-named : goal.returns-clause-named
returns-clause-named c =
    let a = c.args in
    rw c.answered.ensures (named_answer a.name.now a.says.now a.scope.now a.have.now a.tree.now c.judged.result c.judged.ensures)

pub returns-clause-initial : goal.returns-clause-initial
returns-clause-initial c =
    let a = c.args in
    rw c.answered.ensures (initial_answer a.name.now a.says.now a.scope.now a.have.now a.tree.now c.judged.result c.judged.ensures)

pub returns-clause-small : goal.returns-clause-small
returns-clause-small c =
    let a = c.args in
    rw c.answered.ensures (small_answer a.name.now a.says.now a.scope.now a.have.now a.tree.now c.judged.result c.judged.ensures)
