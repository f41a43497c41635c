use Rattle.std.proofs.Common.{◌≡◌, [], map, Ok, ap, ◌∙◌}
use Rattle.std.proofs.lemmas.Result.{err_from_is_err_and}
use Rattle.syntax_tree.specs.declared.statement.CaseElse.{CaseElse}
use Rattle.syntax_tree.specs.declared.statement.Statement.{Statement}
use Rattle.syntax_tree.specs.statement_tree.Trees.{Tasks, view_statement, view_statements, view_case_else, view_arms}
use Rattle.syntax_tree.proofs.statement_tree.Views.{view_case_present}
use Rattle.typed_tree.specs.Expressions.{view_expr}
use Rattle.typed_tree.specs.Statements.{view_stmt}
use Rattle.typing_rules.specs.Sorts.{sort_of}
use Rattle.tp_check_stmt.specs.Asked.{condition}
use Rattle.tp_check_stmt.specs.Typed.{view_arm, blocked, repeating, stated, listed, branched}
use Rattle.tp_check_stmt.proofs.TreeSteps.{compound_judged, repeat_judged, arms_fail, other_fails, case_made}
use Rattle.syntax_tree.specs.expression_tree.Trees.{view_expression}
use Rattle.tp_check_stmt.proofs.statements.+parts.Goals as goal

pub case_else_listed-returns-in-Present-clause-gives : goal.case_else_listed-returns-in-Present-clause-gives
case_else_listed-returns-in-Present-clause-gives t c =
    let g = c.args.scope.now in
    let e : (listed g (view_case_else c.args.otherwise.now)).run ≡ (listed g (view_statements c.in-Present.statements.items)).run =
    ap (λ (x : CaseElse). (listed g (view_case_else x)).run) c.in-Present.is ∙ ap (λ (x : Tasks). (listed g x).run) (view_case_present c.in-Present.statements) in
    let n = rw c.as_slice.ensures.value at c.listed.ensures.gives in
    rw e n

pub listed-returns-in_err-keep-clause-gives : goal.listed-returns-in_err-keep-clause-gives
listed-returns-in_err-keep-clause-gives t c =
    let p = err_from_is_err_and c.from_residual-in_err-keep.result c.from_residual-in_err-keep.ensures.1 in
    rw (p.1, p.2, c.in_err-keep.ensures.err) tt

pub stated-returns-in-Compound-clause-gives : goal.stated-returns-in-Compound-clause-gives
stated-returns-in-Compound-clause-gives t c =
    let g = c.args.scope.now in
    let all = c.in-Compound.one in
    let e : (stated g (view_statement c.args.tree.now)).run ≡ (blocked (listed g (view_statements all.statements.items))).run =
    ap (λ (x : Statement). (stated g (view_statement x)).run) c.in-Compound.is ∙ compound_judged g all in
    let n = rw c.as_slice-in-Compound.ensures.value at c.compound.ensures.gives in
    rw e n

pub stated-returns-in-Repeat-clause-gives : goal.stated-returns-in-Repeat-clause-gives
stated-returns-in-Repeat-clause-gives t c =
    let g = c.args.scope.now in
    let one = c.in-Repeat in
    let e : (stated g (view_statement c.args.tree.now)).run ≡ (repeating (listed g (view_statements one.statements.items)) (condition g (view_expression one.test))).run =
    ap (λ (x : Statement). (stated g (view_statement x)).run) one.is ∙ repeat_judged g one.position one.statements one.test in
    let n = rw c.as_slice-in-Repeat.ensures.value at c.repeat_stated.ensures.gives in
    rw e n

pub stated-returns-in_err-arms-in-Case-clause-gives : goal.stated-returns-in_err-arms-in-Case-clause-gives
stated-returns-in_err-arms-in-Case-clause-gives t c =
    let p = err_from_is_err_and c.from_residual-in_err-arms-in-Case.result c.from_residual-in_err-arms-in-Case.ensures.1 in
    let one = c.in-Case in
    let f = rw (c.sort_of-sort.ensures, c.types.ensures, c.as_slice-in-Case.ensures.value) at c.in_err-arms-in-Case.ensures.gives in
    rw (p.1, p.2, one.is)
    (arms_fail c.args.scope.now one.position one.by one.arms one.semicolon one.otherwise (view_expr c.in_ok-by-in-Case.by) c.in_ok-by-in-Case.ensures c.in_err-arms-in-Case.field-0.0 f)

pub stated-returns-in_err-other-in-Case-clause-gives : goal.stated-returns-in_err-other-in-Case-clause-gives
stated-returns-in_err-other-in-Case-clause-gives t c =
    let p = err_from_is_err_and c.from_residual-in_err-other-in-Case.result c.from_residual-in_err-other-in-Case.ensures.1 in
    let one = c.in-Case in
    let q = rw (c.sort_of-sort.ensures, c.types.ensures, c.as_slice-in-Case.ensures.value) at c.in_ok-arms-in-Case.ensures.gives in
    let f = rw c.in_ok-arms-in-Case.ensures.unchanged at c.in_err-other-in-Case.ensures.gives in
    rw (p.1, p.2, one.is)
    (other_fails c.args.scope.now one.position one.by one.arms one.semicolon one.otherwise (view_expr c.in_ok-by-in-Case.by) c.in_ok-by-in-Case.ensures (map view_arm c.in_ok-arms-in-Case.arms.items) q
    c.in_err-other-in-Case.field-0.0 f)

pub stated-returns-in_ok-other-in-Case-clause-gives : goal.stated-returns-in_ok-other-in-Case-clause-gives
stated-returns-in_ok-other-in-Case-clause-gives t c =
    let one = c.in-Case in
    let q = rw (c.sort_of-sort.ensures, c.types.ensures, c.as_slice-in-Case.ensures.value) at c.in_ok-arms-in-Case.ensures.gives in
    let o = rw c.in_ok-arms-in-Case.ensures.unchanged at c.in_ok-other-in-Case.ensures.gives in
    rw one.is
    (case_made c.args.scope.now one.position one.by one.arms one.semicolon one.otherwise (view_expr c.in_ok-by-in-Case.by) c.in_ok-by-in-Case.ensures (map view_arm c.in_ok-arms-in-Case.arms.items) q
    (map view_stmt c.in_ok-other-in-Case.other.items) c.case_node.result o c.case_node.ensures)
