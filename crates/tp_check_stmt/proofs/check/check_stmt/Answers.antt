use Rattle.typed_tree.specs.Statements.{view_stmt}
use Rattle.typing_rules.proofs.JudgementLaws.{typed_answer, complete_answer, fails_answer}
use Rattle.syntax_tree.specs.statement_tree.Trees.{view_statement}
use Rattle.tp_check_stmt.specs.Typed.{stated}
use Rattle.tp_check_stmt.proofs.StatementLaws.{lawful}
use Rattle.tp_check_stmt.proofs.check.check_stmt.Goals as goal

pub returns-clause-typed : goal.returns-clause-typed
returns-clause-typed c =
    let tree = view_statement c.args.tree.now in
    rw c.answered.ensures (typed_answer view_stmt (stated c.args.scope.now tree) (lawful c.args.scope.now tree) c.stated.result c.stated.ensures.gives)

pub returns-clause-complete : goal.returns-clause-complete
returns-clause-complete c =
    let tree = view_statement c.args.tree.now in
    rw c.answered.ensures (complete_answer view_stmt (stated c.args.scope.now tree) (lawful c.args.scope.now tree) c.stated.result c.stated.ensures.gives)

pub returns-clause-fails : goal.returns-clause-fails
returns-clause-fails c =
    let tree = view_statement c.args.tree.now in
    rw c.answered.ensures (fails_answer view_stmt (stated c.args.scope.now tree) (lawful c.args.scope.now tree) c.stated.result c.stated.ensures.gives)
