use Rattle.std.proofs.Common.{◌≡◌, sym, ap, ◌∙◌}
use Rattle.typed_tree.specs.Expressions.{Load, Unary, Binary, Convert, Range, SetOf, Call, CallVirtual, CallThrough, Std, Make, RoutineValue, Var, Deref, Index, FieldOf, view_expr, view_place, view_args, view_elements, view_receiver}
use Rattle.typed_tree.specs.Statements.{Assign, CopyAll, Run, If, While, Repeat, Block, Case, For, With, WriteItems, ReadItems, Halt, Exit, Unmake, view_stmt, view_stmts, view_arms}
use Rattle.typed_tree.proofs.Views.{view_set, view_call, view_call_virtual, view_call_through, view_std, view_make}
use Rattle.typed_tree.proofs.StatementViews.{view_block, view_case}
use Rattle.interpreter_steps.specs.Running.{view_run, program_of}
use Rattle.interpreter_steps.proofs.interpreter_frames.Moves.{moves1, moves2, moves3}
use Rattle.interpreter.proofs.Binds.{two_binds, three_binds, four_binds}
use Rattle.interpreter.proofs.machine.Machine.locate.Goals as goal

pub returns-in-Var : goal.returns-in-Var
returns-in-Var c =
    let p = program_of c.args.self.now.steps in
    let s = view_run c.args.run.now in
    let e = ap view_place c.in-Var.is in
    rw e (c.gave_place.ensures p c.args.work.now s _ c.variable.ensures)

pub returns-in-Deref : goal.returns-in-Deref
returns-in-Deref c =
    let p = program_of c.args.self.now.steps in
    let s = view_run c.args.run.now in
    let e = ap view_place c.in-Deref.is in
    rw e (rw two_binds (rw c.deref.ensures at (c.evaluate.ensures p s)))

pub returns-in-Index : goal.returns-in-Index
returns-in-Index c =
    let p = program_of c.args.self.now.steps in
    let s = view_run c.args.run.now in
    let e = ap view_place c.in-Index.is in
    rw e (rw two_binds (rw c.deref-in-Index.ensures at (c.locate.ensures p s)))

pub returns-in-FieldOf : goal.returns-in-FieldOf
returns-in-FieldOf c =
    let p = program_of c.args.self.now.steps in
    let s = view_run c.args.run.now in
    let e = ap view_place c.in-FieldOf.is in
    rw e (rw two_binds (rw c.deref-in-FieldOf.ensures at (c.locate-in-FieldOf.ensures p s)))
