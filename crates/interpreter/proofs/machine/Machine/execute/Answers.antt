use Rattle.std.proofs.Common.{◌≡◌, sym, ap, ◌∙◌}
use Rattle.typed_tree.specs.Expressions.{Load, Unary, Binary, Convert, Range, SetOf, Call, CallVirtual, CallThrough, Std, Make, RoutineValue, Var, Deref, Index, FieldOf, view_expr, view_place, view_args, view_elements, view_receiver}
use Rattle.typed_tree.specs.Statements.{Assign, CopyAll, Run, If, While, Repeat, Block, Case, For, With, WriteItems, ReadItems, Halt, Exit, Unmake, view_stmt, view_stmts, view_arms}
use Rattle.typed_tree.proofs.Views.{view_set, view_call, view_call_virtual, view_call_through, view_std, view_make}
use Rattle.typed_tree.proofs.StatementViews.{view_block, view_case}
use Rattle.interpreter_steps.specs.Running.{view_run, program_of}
use Rattle.interpreter_steps.proofs.interpreter_frames.Moves.{moves1, moves2, moves3}
use Rattle.interpreter.proofs.Binds.{two_binds, three_binds, four_binds}
use Rattle.interpreter.proofs.machine.Machine.execute.Goals as goal

pub returns-in-Assign : goal.returns-in-Assign
returns-in-Assign c =
    let p = program_of c.args.self.now.steps in
    let s = view_run c.args.run.now in
    let e = ap view_stmt c.in-Assign.is in
    rw e (rw two_binds (rw c.deref.ensures at (c.locate.ensures p s)))

pub returns-in-CopyAll : goal.returns-in-CopyAll
returns-in-CopyAll c =
    let p = program_of c.args.self.now.steps in
    let s = view_run c.args.run.now in
    let e = ap view_stmt c.in-CopyAll.is in
    rw e (rw two_binds (rw c.deref-in-CopyAll.ensures at (c.locate-in-CopyAll.ensures p s)))

pub returns-in-Run : goal.returns-in-Run
returns-in-Run c =
    let p = program_of c.args.self.now.steps in
    let s = view_run c.args.run.now in
    let e = ap view_stmt c.in-Run.is in
    rw e (rw two_binds (rw c.deref-in-Run.ensures at (c.evaluate.ensures p s)))

pub returns-in-If : goal.returns-in-If
returns-in-If c =
    let p = program_of c.args.self.now.steps in
    let s = view_run c.args.run.now in
    let e = ap view_stmt c.in-If.is in
    rw e (rw four_binds (rw c.deref-in-If.ensures at (c.evaluate-in-If.ensures p s)))

pub returns-in-While : goal.returns-in-While
returns-in-While c =
    let p = program_of c.args.self.now.steps in
    let s = view_run c.args.run.now in
    let e = ap view_stmt c.in-While.is in
    rw e (c.test_while.ensures p s)

pub returns-in-Repeat : goal.returns-in-Repeat
returns-in-Repeat c =
    let p = program_of c.args.self.now.steps in
    let s = view_run c.args.run.now in
    let e = ap view_stmt c.in-Repeat.is in
    rw e (c.turn_repeat.ensures p)

pub returns-in-Block : goal.returns-in-Block
returns-in-Block c =
    let p = program_of c.args.self.now.steps in
    let s = view_run c.args.run.now in
    let e = ap view_stmt c.in-Block.is ∙ view_block c.in-Block.statements in
    rw e (rw c.as_slice.ensures.value at (c.list_statements.ensures p s))

pub returns-in-Case : goal.returns-in-Case
returns-in-Case c =
    let p = program_of c.args.self.now.steps in
    let s = view_run c.args.run.now in
    let e = ap view_stmt c.in-Case.is ∙ view_case c.in-Case.selector c.in-Case.arms c.in-Case.other in
    rw e (rw three_binds (rw (c.deref-in-Case.ensures, c.as_slice-in-Case.ensures.value) at (c.evaluate-in-Case.ensures p s)))

pub returns-in-For : goal.returns-in-For
returns-in-For c =
    let p = program_of c.args.self.now.steps in
    let s = view_run c.args.run.now in
    let e = ap view_stmt c.in-For.is in
    rw e (rw three_binds (rw c.deref-in-For.ensures at (c.evaluate-in-For.ensures p s)))

pub returns-in-With : goal.returns-in-With
returns-in-With c =
    let p = program_of c.args.self.now.steps in
    let s = view_run c.args.run.now in
    let e = ap view_stmt c.in-With.is in
    rw e (rw two_binds (rw c.deref-in-With.ensures at (c.locate-in-With.ensures p s)))

pub returns-in-WriteItems : goal.returns-in-WriteItems
returns-in-WriteItems c =
    let p = program_of c.args.self.now.steps in
    let s = view_run c.args.run.now in
    let e = ap view_stmt c.in-WriteItems.is in
    rw e (rw c.as_slice-in-WriteItems.ensures.value at (c.write.ensures p))

pub returns-in-ReadItems : goal.returns-in-ReadItems
returns-in-ReadItems c =
    let p = program_of c.args.self.now.steps in
    let s = view_run c.args.run.now in
    let e = ap view_stmt c.in-ReadItems.is in
    rw e (rw c.as_slice-in-ReadItems.ensures.value at (c.read.ensures p))

pub returns-in-Halt : goal.returns-in-Halt
returns-in-Halt c =
    let p = program_of c.args.self.now.steps in
    let s = view_run c.args.run.now in
    let e = ap view_stmt c.in-Halt.is in
    rw e (rw three_binds (rw c.deref-in-Halt.ensures at (c.evaluate-in-Halt.ensures p s)))

pub returns-in-Unmake : goal.returns-in-Unmake
returns-in-Unmake c =
    let p = program_of c.args.self.now.steps in
    let s = view_run c.args.run.now in
    let e = ap view_stmt c.in-Unmake.is in
    rw e (rw two_binds (rw (c.deref-in-Unmake.ensures, c.as_slice-in-Unmake.ensures.value) at (c.evaluate-in-Unmake.ensures p s)))
