use Rattle.typing_rules.proofs.JudgementLaws.{typed_answer, complete_answer, fails_answer}
use Rattle.syntax_tree.specs.expression_tree.Trees.{view_simple}
use Rattle.constant_checker.specs.constant_expressions.Values.{itself}
use Rattle.constant_checker.specs.constant_expressions.Constants.{judged}
use Rattle.constant_checker.proofs.constant_expressions.ConstantLaws.{lawful}
use Rattle.constant_checker.proofs.constant_expressions.check.check_constant.Goals as goal

pub returns-clause-typed : goal.returns-clause-typed
returns-clause-typed c =
    let tree = view_simple c.args.tree.now in
    rw c.answered.ensures (typed_answer itself (judged c.args.scope.now tree) (lawful c.args.scope.now tree) c.constant_of.result c.constant_of.ensures)

pub returns-clause-complete : goal.returns-clause-complete
returns-clause-complete c =
    let tree = view_simple c.args.tree.now in
    rw c.answered.ensures (complete_answer itself (judged c.args.scope.now tree) (lawful c.args.scope.now tree) c.constant_of.result c.constant_of.ensures)

pub returns-clause-fails : goal.returns-clause-fails
returns-clause-fails c =
    let tree = view_simple c.args.tree.now in
    rw c.answered.ensures (fails_answer itself (judged c.args.scope.now tree) (lawful c.args.scope.now tree) c.constant_of.result c.constant_of.ensures)
