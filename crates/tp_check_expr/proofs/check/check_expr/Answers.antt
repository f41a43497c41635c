use Rattle.typed_tree.specs.Expressions.{view_expr}
use Rattle.typing_rules.proofs.JudgementLaws.{typed_answer, complete_answer, fails_answer}
use Rattle.syntax_tree.specs.expression_tree.Trees.{view_expression}
use Rattle.tp_check_expr.specs.Typed.{judged}
use Rattle.tp_check_expr.proofs.TypedLaws.{lawful}
use Rattle.tp_check_expr.proofs.check.check_expr.Goals as goal

pub returns-clause-typed : goal.returns-clause-typed
returns-clause-typed c =
    let tree = view_expression c.args.tree.now in
    rw c.answered.ensures (typed_answer view_expr (judged c.args.scope.now tree) (lawful c.args.scope.now tree) c.judged_expression.result c.judged_expression.ensures)

pub returns-clause-complete : goal.returns-clause-complete
returns-clause-complete c =
    let tree = view_expression c.args.tree.now in
    rw c.answered.ensures (complete_answer view_expr (judged c.args.scope.now tree) (lawful c.args.scope.now tree) c.judged_expression.result c.judged_expression.ensures)

pub returns-clause-fails : goal.returns-clause-fails
returns-clause-fails c =
    let tree = view_expression c.args.tree.now in
    rw c.answered.ensures (fails_answer view_expr (judged c.args.scope.now tree) (lawful c.args.scope.now tree) c.judged_expression.result c.judged_expression.ensures)
