use Rattle.std.proofs.Common.{arith, ◌≡◌, ◌+◌, ◌++◌, length, sym, ap, ◌∙◌}
use Rattle.flat_code.specs.declared.tree.FlatStmt.{FlatStmt}
use Rattle.flat_code.specs.Plain.{view_unit}
use Rattle.flat_code.specs.Tree.{End, If, Loop}
use Rattle.flat_code.specs.View.{view_expr, view_stmt, view_list}
use Rattle.flat_code.proofs.Rows.{view_if, view_loop}
use Rattle.code_templates.specs.code_lines.Lines.{labels}
use Rattle.code_templates.specs.code_references.Marked.{marked_code, stored}
use Rattle.codegen_8086.proofs.generate_expressions.Plain.{on_ok}
use Rattle.codegen_8086.specs.generate_code.Numbering.{Numbering}
use Rattle.codegen_8086.proofs.generate_code.Joined.{if-joined, if-labels, if-stored, loop-joined, loop-around, loop-labels, loop-stored, labels-at, stored-next, list-next, list-end, labels-end, stored-end}
use Rattle.codegen_8086.proofs.generate_code.statements.+code.Goals as goal

pub push_loop-returns-clause-lines : goal.push_loop-returns-clause-lines
push_loop-returns-clause-lines t c =
    on_ok c.push_bare-2.result (λ h.
    loop-joined (view_unit c.args.unit.now) c.args.far c.args.numbers.now c.next.new.self c.enter_loop.new.self c.in_ok-first.first (view_list c.args.body.now)
    c.args.lines.now c.push_bare.new.lines c.push_list.new.lines c.push_bare-2.new.lines
    c.in_ok-first.ensures.first c.in_ok-first.ensures.past c.in_ok-enter_loop.ensures c.in_ok-push_bare.ensures c.in_ok-push_list.ensures.lines h) c.push_bare-2.ensures

pub push_loop-returns-clause-around : goal.push_loop-returns-clause-around
push_loop-returns-clause-around t c =
    on_ok c.push_bare-2.result (λ h.
    ap (λ (n : Numbering). n.around) c.leave_loop.ensures
    ∙ loop-around c.args.numbers.now c.next.new.self c.enter_loop.new.self c.push_list.new.numbers (c.in_ok-first.first + 1) c.in_ok-first.ensures.past c.in_ok-enter_loop.ensures c.in_ok-push_list.ensures.around) c.push_bare-2.ensures

pub push_loop-returns-clause-label : goal.push_loop-returns-clause-label
push_loop-returns-clause-label t c =
    on_ok c.push_bare-2.result (λ h.
    ap (λ (n : Numbering). n.label) c.leave_loop.ensures
    ∙ loop-labels c.args.numbers.now c.next.new.self c.enter_loop.new.self c.push_list.new.numbers (c.in_ok-first.first + 1) (view_list c.args.body.now) c.in_ok-first.ensures.past c.in_ok-enter_loop.ensures c.in_ok-push_list.ensures.label) c.push_bare-2.ensures

pub push_loop-returns-clause-stored : goal.push_loop-returns-clause-stored
push_loop-returns-clause-stored t c =
    on_ok c.push_bare-2.result (λ h.
    ap (λ (n : Numbering). n.stored) c.leave_loop.ensures
    ∙ loop-stored c.args.numbers.now c.next.new.self c.enter_loop.new.self c.push_list.new.numbers (c.in_ok-first.first + 1) (view_list c.args.body.now) c.in_ok-first.ensures.past c.in_ok-enter_loop.ensures c.in_ok-push_list.ensures.stored) c.push_bare-2.ensures

pub push_stmt-returns-in_ok-push_list-in-If-2-clause-lines : goal.push_stmt-returns-in_ok-push_list-in-If-2-clause-lines
push_stmt-returns-in_ok-push_list-in-If-2-clause-lines t c =
    let u = view_unit c.args.unit.now in
    let far = c.args.far in
    let n = c.args.numbers.now in
    let l0 = c.args.lines.now in
    let first = rw c.as_slice.ensures.value at c.in_ok-push_list-in-If.ensures.lines in
    let second = rw c.as_slice-in-If.ensures.value at c.in_ok-push_list-in-If-2.ensures.lines in
    let passed = rw c.as_slice.ensures.value at c.in_ok-push_list-in-If.ensures.label in
    let kept = rw c.as_slice.ensures.value at c.in_ok-push_list-in-If.ensures.stored in
    let e : view_stmt c.args.stmt.now End ≡ If (view_expr c.in-If.test) (view_list c.in-If.yes.items) (view_list c.in-If.no.items) End =
    ap (λ (s : FlatStmt). view_stmt s End) c.in-If.is ∙ view_if c.in-If.test c.in-If.yes c.in-If.no in
    on_ok c.push_bare-in-If.result (λ h.
    if-joined u far n c.push_test.new.numbers c.push_list.new.numbers c.in_ok-first-in-If.first (view_expr c.in-If.test) (view_list c.in-If.yes.items) (view_list c.in-If.no.items)
    l0 c.push_test.new.lines c.push_list.new.lines c.push_bare.new.lines c.push_list-in-If.new.lines c.push_bare-in-If.new.lines
    c.in_ok-first-in-If.ensures.first c.in_ok-first-in-If.ensures.past c.in_ok-push_list-in-If.ensures.around passed kept
    c.in_ok-first-in-If.ensures.lines first c.in_ok-push_bare-in-If.ensures second h
    ∙ sym (ap (λ z. l0 ++ marked_code u far n.around n.label (length n.stored) z) e)) c.push_bare-in-If.ensures

pub push_stmt-returns-in_ok-push_list-in-If-2-clause-around : goal.push_stmt-returns-in_ok-push_list-in-If-2-clause-around
push_stmt-returns-in_ok-push_list-in-If-2-clause-around t c =
    on_ok c.push_bare-in-If.result (λ h. c.in_ok-push_list-in-If-2.ensures.around ∙ c.in_ok-push_list-in-If.ensures.around ∙ ap (λ (n : Numbering). n.around) c.in_ok-first-in-If.ensures.past) c.push_bare-in-If.ensures

pub push_stmt-returns-in_ok-push_list-in-If-2-clause-label : goal.push_stmt-returns-in_ok-push_list-in-If-2-clause-label
push_stmt-returns-in_ok-push_list-in-If-2-clause-label t c =
    let n = c.args.numbers.now in
    let first = rw c.as_slice.ensures.value at c.in_ok-push_list-in-If.ensures.label in
    let second = rw c.as_slice-in-If.ensures.value at c.in_ok-push_list-in-If-2.ensures.label in
    let e : view_stmt c.args.stmt.now End ≡ If (view_expr c.in-If.test) (view_list c.in-If.yes.items) (view_list c.in-If.no.items) End =
    ap (λ (s : FlatStmt). view_stmt s End) c.in-If.is ∙ view_if c.in-If.test c.in-If.yes c.in-If.no in
    on_ok c.push_bare-in-If.result (λ h.
    if-labels n c.push_test.new.numbers c.push_list.new.numbers c.push_list-in-If.new.numbers (view_expr c.in-If.test) (view_list c.in-If.yes.items) (view_list c.in-If.no.items)
    c.in_ok-first-in-If.ensures.past first second ∙ sym (ap (λ z. n.label + labels z) e)) c.push_bare-in-If.ensures

pub push_stmt-returns-in_ok-push_list-in-If-2-clause-stored : goal.push_stmt-returns-in_ok-push_list-in-If-2-clause-stored
push_stmt-returns-in_ok-push_list-in-If-2-clause-stored t c =
    let n = c.args.numbers.now in
    let first = rw c.as_slice.ensures.value at c.in_ok-push_list-in-If.ensures.stored in
    let second = rw c.as_slice-in-If.ensures.value at c.in_ok-push_list-in-If-2.ensures.stored in
    let e : view_stmt c.args.stmt.now End ≡ If (view_expr c.in-If.test) (view_list c.in-If.yes.items) (view_list c.in-If.no.items) End =
    ap (λ (s : FlatStmt). view_stmt s End) c.in-If.is ∙ view_if c.in-If.test c.in-If.yes c.in-If.no in
    on_ok c.push_bare-in-If.result (λ h.
    if-stored n c.push_test.new.numbers c.push_list.new.numbers c.push_list-in-If.new.numbers (view_expr c.in-If.test) (view_list c.in-If.yes.items) (view_list c.in-If.no.items)
    c.in_ok-first-in-If.ensures.past first second ∙ sym (ap (λ z. n.stored ++ stored z) e)) c.push_bare-in-If.ensures

pub push_stmt-returns-in-Loop-clause-lines : goal.push_stmt-returns-in-Loop-clause-lines
push_stmt-returns-in-Loop-clause-lines t c =
    let e : view_stmt c.args.stmt.now End ≡ Loop (view_list c.in-Loop.body.items) End = ap (λ (s : FlatStmt). view_stmt s End) c.in-Loop.is ∙ view_loop c.in-Loop.body in
    let one = rw c.as_slice-in-Loop.ensures.value at c.push_loop.ensures.lines in
    rw e one

pub push_stmt-returns-in-Loop-clause-label : goal.push_stmt-returns-in-Loop-clause-label
push_stmt-returns-in-Loop-clause-label t c =
    let e : view_stmt c.args.stmt.now End ≡ Loop (view_list c.in-Loop.body.items) End = ap (λ (s : FlatStmt). view_stmt s End) c.in-Loop.is ∙ view_loop c.in-Loop.body in
    let one = rw c.as_slice-in-Loop.ensures.value at c.push_loop.ensures.label in
    rw e one

pub push_stmt-returns-in-Loop-clause-stored : goal.push_stmt-returns-in-Loop-clause-stored
push_stmt-returns-in-Loop-clause-stored t c =
    let e : view_stmt c.args.stmt.now End ≡ Loop (view_list c.in-Loop.body.items) End = ap (λ (s : FlatStmt). view_stmt s End) c.in-Loop.is ∙ view_loop c.in-Loop.body in
    let one = rw c.as_slice-in-Loop.ensures.value at c.push_loop.ensures.stored in
    rw e one

pub push_list-loop-stmt-preserved : goal.push_list-loop-stmt-preserved
push_list-loop-stmt-preserved t c =
    let u = view_unit c.args.unit.now in
    let n = c.loop-stmt.numbers in
    let m = c.push_stmt.new.numbers in
    let list = c.args.list.now in
    let i = c.loop-stmt.stmt-index in
    let s = c.stmt-item.result in
    let inv = c.loop-stmt.invariant in
    let done = c.in_ok-push_stmt.ensures in
    let passed = done.label in
    let counted = labels-at list i s c.loop-stmt-test.true c.stmt-item.is in
    let first = c.args.numbers.now in (
      done.around ∙ inv.0,
      omega (arith, inv.1, counted, passed),
      stored-next (first.stored ++ stored (view_list list)) n.stored m.stored list i s c.loop-stmt-test.true c.stmt-item.is inv.2 done.stored,
      list-next u c.args.far first.around (c.args.lines.now ++ marked_code u c.args.far first.around first.label (length first.stored) (view_list list)) c.loop-stmt.lines c.push_stmt.new.lines n m list i s c.loop-stmt-test.true c.stmt-item.is inv.0 inv.3 done.lines passed done.stored,
    )

pub push_list-returns-clause-lines : goal.push_list-returns-clause-lines
push_list-returns-clause-lines t c =
    let u = view_unit c.args.unit.now in
    let first = c.args.numbers.now in
    let list = c.args.list.now in
    list-end u c.args.far first.around c.loop-stmt.numbers.label (length c.loop-stmt.numbers.stored) (c.args.lines.now ++ marked_code u c.args.far first.around first.label (length first.stored) (view_list list)) c.loop-stmt.lines list c.loop-stmt.stmt-index c.loop-stmt-test.false c.loop-stmt.invariant.3

pub push_list-returns-clause-label : goal.push_list-returns-clause-label
push_list-returns-clause-label t c =
    let none = labels-end c.args.list.now c.loop-stmt.stmt-index c.loop-stmt-test.false in
    omega (arith, none, c.loop-stmt.invariant.1)

pub push_list-returns-clause-stored : goal.push_list-returns-clause-stored
push_list-returns-clause-stored t c =
    let list = c.args.list.now in
    stored-end (c.args.numbers.now.stored ++ stored (view_list list)) c.loop-stmt.numbers.stored list c.loop-stmt.stmt-index c.loop-stmt-test.false c.loop-stmt.invariant.2
