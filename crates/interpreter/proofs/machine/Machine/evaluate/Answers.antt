use Rattle.std.proofs.Common.{◌≡◌, sym, ap, ◌∙◌}
use Rattle.typed_tree.specs.Expressions.{Load, Unary, Binary, Convert, Range, SetOf, Call, CallVirtual, CallThrough, Std, Make, RoutineValue, Var, Deref, Index, FieldOf, view_expr, view_place, view_args, view_elements, view_receiver}
use Rattle.typed_tree.specs.Statements.{Assign, CopyAll, Run, If, While, Repeat, Block, Case, For, With, WriteItems, ReadItems, Halt, Exit, Unmake, view_stmt, view_stmts, view_arms}
use Rattle.typed_tree.proofs.Views.{view_set, view_call, view_call_virtual, view_call_through, view_std, view_make}
use Rattle.typed_tree.proofs.StatementViews.{view_block, view_case}
use Rattle.interpreter_steps.specs.Running.{view_run, program_of}
use Rattle.interpreter_steps.proofs.interpreter_frames.Moves.{moves1, moves2, moves3}
use Rattle.std.proofs.Common.{rules, w32, to_z, of_z}
use Rattle.std.proofs.lemmas.Int.{to_z-of_z}
use Rattle.interpreter.proofs.Binds.{two_binds, three_binds, four_binds}
use Rattle.interpreter.proofs.machine.Machine.evaluate.Goals as goal

pub returns-in-RoutineValue : goal.returns-in-RoutineValue
returns-in-RoutineValue c =
    let p = program_of c.args.self.now.steps in
    let s = view_run c.args.run.now in
    let e = ap view_expr c.in-RoutineValue.is in
    rw e (c.gave_value.ensures p c.args.work.now s _ (c.routine_value.ensures s))

pub returns-in-Load : goal.returns-in-Load
returns-in-Load c =
    let p = program_of c.args.self.now.steps in
    let s = view_run c.args.run.now in
    let e = ap view_expr c.in-Load.is in
    rw e (rw two_binds (rw c.deref.ensures at (c.locate.ensures p s)))

pub returns-in-Unary : goal.returns-in-Unary
returns-in-Unary c =
    let p = program_of c.args.self.now.steps in
    let s = view_run c.args.run.now in
    let e = ap view_expr c.in-Unary.is in
    rw e (rw two_binds (rw c.deref-in-Unary.ensures at (c.evaluate.ensures p s)))

pub returns-in-Binary : goal.returns-in-Binary
returns-in-Binary c =
    let p = program_of c.args.self.now.steps in
    let s = view_run c.args.run.now in
    let e = ap view_expr c.in-Binary.is in
    rw e (rw two_binds (rw c.deref-in-Binary.ensures at (c.evaluate-in-Binary.ensures p s)))

pub returns-in-Convert : goal.returns-in-Convert
returns-in-Convert c =
    let p = program_of c.args.self.now.steps in
    let s = view_run c.args.run.now in
    let e = ap view_expr c.in-Convert.is in
    rw e (rw two_binds (rw c.deref-in-Convert.ensures at (c.evaluate-in-Convert.ensures p s)))

pub returns-in-Range : goal.returns-in-Range
returns-in-Range c =
    let p = program_of c.args.self.now.steps in
    let s = view_run c.args.run.now in
    let e = ap view_expr c.in-Range.is in
    let low : to_z w32 (of_z w32 c.in-Range.low) ≡ c.in-Range.low = search rules in
    let high : to_z w32 (of_z w32 c.in-Range.high) ≡ c.in-Range.high = search rules in
    rw e (rw two_binds (rw (c.deref-in-Range.ensures, low, high) at (c.evaluate-in-Range.ensures p s)))

pub returns-in-SetOf : goal.returns-in-SetOf
returns-in-SetOf c =
    let p = program_of c.args.self.now.steps in
    let s = view_run c.args.run.now in
    let e = ap view_expr c.in-SetOf.is ∙ view_set c.in-SetOf.ty c.in-SetOf.elements in
    rw e (rw (c.as_slice.ensures.value, c.new.ensures.items) at (c.list_elements.ensures p s))

pub returns-in-Call : goal.returns-in-Call
returns-in-Call c =
    let p = program_of c.args.self.now.steps in
    let s = view_run c.args.run.now in
    let e = ap view_expr c.in-Call.is ∙ view_call c.in-Call.ty c.in-Call.routine c.in-Call.own c.in-Call.args in
    rw e (rw c.as_slice-in-Call.ensures.value at (c.call.ensures c.in-Call.ty))

pub returns-in-CallVirtual : goal.returns-in-CallVirtual
returns-in-CallVirtual c =
    let p = program_of c.args.self.now.steps in
    let s = view_run c.args.run.now in
    let e = ap view_expr c.in-CallVirtual.is ∙ view_call_virtual c.in-CallVirtual.ty c.in-CallVirtual.own c.in-CallVirtual.slot c.in-CallVirtual.checked c.in-CallVirtual.args in
    rw e (rw two_binds (rw (c.deref-in-CallVirtual.ensures, c.as_slice-in-CallVirtual.ensures.value) at (c.locate-in-CallVirtual.ensures p s)))

pub returns-in-CallThrough : goal.returns-in-CallThrough
returns-in-CallThrough c =
    let p = program_of c.args.self.now.steps in
    let s = view_run c.args.run.now in
    let e = ap view_expr c.in-CallThrough.is ∙ view_call_through c.in-CallThrough.ty c.in-CallThrough.place c.in-CallThrough.args in
    rw e (rw two_binds (rw (c.deref-in-CallThrough.ensures, c.as_slice-in-CallThrough.ensures.value) at (c.locate-in-CallThrough.ensures p s)))

pub returns-in-Std : goal.returns-in-Std
returns-in-Std c =
    let p = program_of c.args.self.now.steps in
    let s = view_run c.args.run.now in
    let e = ap view_expr c.in-Std.is ∙ view_std c.in-Std.ty c.in-Std.number c.in-Std.args in
    rw e (rw c.as_slice-in-Std.ensures.value at c.perform.ensures)

pub returns-in-Make : goal.returns-in-Make
returns-in-Make c =
    let p = program_of c.args.self.now.steps in
    let s = view_run c.args.run.now in
    let e = ap view_expr c.in-Make.is ∙ view_make c.in-Make.ty c.in-Make.routine c.in-Make.args in
    rw e (rw c.as_slice-in-Make.ensures.value at c.make.ensures)
