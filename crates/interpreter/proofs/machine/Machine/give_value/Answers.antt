use Rattle.std.proofs.Common.{◌≡◌, refl, sym, ap, ◌∙◌}
use Rattle.std.proofs.Common.{rules, w32, to_z, of_z}
use Rattle.std.proofs.lemmas.Int.{to_z-of_z}
use Rattle.interpreter_steps.specs.Running.{view_run, program_of}
use Rattle.interpreter.proofs.Binds.{two_binds}
use Rattle.interpreter.proofs.machine.Machine.give_value.Goals as goal

pub returns-in-Unary : goal.returns-in-Unary
returns-in-Unary c =
    let p = program_of c.args.self.now.steps in
    let s = view_run c.args.run.now in
    let w = c.args.work.now in
    rw c.in-Unary.is (c.gave_value.ensures p w s _ (c.unary_value.ensures s))

pub returns-in-Left : goal.returns-in-Left
returns-in-Left c =
    let p = program_of c.args.self.now.steps in
    let s = view_run c.args.run.now in
    let w = c.args.work.now in
    rw c.in-Left.is (rw c.deref.ensures at (c.operate.ensures p s))

pub returns-in-Right : goal.returns-in-Right
returns-in-Right c =
    let p = program_of c.args.self.now.steps in
    let s = view_run c.args.run.now in
    let w = c.args.work.now in
    rw c.in-Right.is (c.gave_value-in-Right.ensures p w s _ c.binary_value.ensures)

pub returns-in-Convert : goal.returns-in-Convert
returns-in-Convert c =
    let p = program_of c.args.self.now.steps in
    let s = view_run c.args.run.now in
    let w = c.args.work.now in
    rw c.in-Convert.is (c.gave_value-in-Convert.ensures p w s _ (c.converted_value.ensures s))

pub returns-in-Range : goal.returns-in-Range
returns-in-Range c =
    let p = program_of c.args.self.now.steps in
    let s = view_run c.args.run.now in
    let w = c.args.work.now in
    let low : to_z w32 (of_z w32 c.in-Range.low) ≡ c.in-Range.low = search rules in
    let high : to_z w32 (of_z w32 c.in-Range.high) ≡ c.in-Range.high = search rules in
    rw c.in-Range.is (c.gave_value-in-Range.ensures p w s _ (rw (low, high) at (c.value_within.ensures s)))

pub returns-in-Element : goal.returns-in-Element
returns-in-Element c =
    let p = program_of c.args.self.now.steps in
    let s = view_run c.args.run.now in
    let w = c.args.work.now in
    rw c.in-Element.is (rw c.as_slice.ensures.value at (c.add_element.ensures p s))

pub returns-in-First : goal.returns-in-First
returns-in-First c =
    let p = program_of c.args.self.now.steps in
    let s = view_run c.args.run.now in
    let w = c.args.work.now in
    rw c.in-First.is (c.span_from.ensures p s)

pub returns-in-Last : goal.returns-in-Last
returns-in-Last c =
    let p = program_of c.args.self.now.steps in
    let s = view_run c.args.run.now in
    let w = c.args.work.now in
    rw c.in-Last.is (c.add_span.ensures p s)

pub returns-in-Deref : goal.returns-in-Deref
returns-in-Deref c =
    let p = program_of c.args.self.now.steps in
    let s = view_run c.args.run.now in
    let w = c.args.work.now in
    rw c.in-Deref.is (c.gave_place.ensures p w s _ (rw c.deref-in-Deref.ensures at c.follow.ensures))

pub returns-in-Index : goal.returns-in-Index
returns-in-Index c =
    let p = program_of c.args.self.now.steps in
    let s = view_run c.args.run.now in
    let w = c.args.work.now in
    rw c.in-Index.is (c.gave_place-in-Index.ensures p w s _ (c.element_at.ensures s))

pub returns-in-Argument : goal.returns-in-Argument
returns-in-Argument c =
    let p = program_of c.args.self.now.steps in
    let s = view_run c.args.run.now in
    let w = c.args.work.now in
    rw c.in-Argument.is (c.argue_on.ensures)

pub returns-in-Freed : goal.returns-in-Freed
returns-in-Freed c =
    let p = program_of c.args.self.now.steps in
    let s = view_run c.args.run.now in
    let w = c.args.work.now in
    rw c.in-Freed.is (c.gave_flow.ensures p w (view_run c.free.new.run) _ c.free.ensures)

pub returns-in-Assign : goal.returns-in-Assign
returns-in-Assign c =
    let p = program_of c.args.self.now.steps in
    let s = view_run c.args.run.now in
    let w = c.args.work.now in
    rw c.in-Assign.is (rw two_binds (c.done.ensures p w (view_run c.store.new.run) _ c.store.ensures))

pub returns-in-If : goal.returns-in-If
returns-in-If c =
    let p = program_of c.args.self.now.steps in
    let s = view_run c.args.run.now in
    let w = c.args.work.now in
    rw c.in-If.is (rw (c.deref-in-If.ensures, c.deref-in-If-2.ensures) at (c.choose.ensures p w s))

pub returns-in-While : goal.returns-in-While
returns-in-While c =
    let p = program_of c.args.self.now.steps in
    let s = view_run c.args.run.now in
    let w = c.args.work.now in
    rw c.in-While.is (c.turn_while.ensures p)

pub returns-in-Until : goal.returns-in-Until
returns-in-Until c =
    let p = program_of c.args.self.now.steps in
    let s = view_run c.args.run.now in
    let w = c.args.work.now in
    rw c.in-Until.is (c.end_repeat.ensures p)

pub returns-in-Case : goal.returns-in-Case
returns-in-Case c =
    let p = program_of c.args.self.now.steps in
    let s = view_run c.args.run.now in
    let w = c.args.work.now in
    rw c.in-Case.is (rw c.deref-in-Case.ensures at (c.select.ensures p w s))

pub returns-in-From : goal.returns-in-From
returns-in-From c =
    let p = program_of c.args.self.now.steps in
    let s = view_run c.args.run.now in
    let w = c.args.work.now in
    rw c.in-From.is (c.count_from.ensures p s)

pub returns-in-To : goal.returns-in-To
returns-in-To c =
    let p = program_of c.args.self.now.steps in
    let s = view_run c.args.run.now in
    let w = c.args.work.now in
    let first : to_z w32 (of_z w32 c.in-To.first) ≡ c.in-To.first = search rules in
    rw c.in-To.is (rw first at c.count_to.ensures)

pub returns-in-Write : goal.returns-in-Write
returns-in-Write c =
    let p = program_of c.args.self.now.steps in
    let s = view_run c.args.run.now in
    let w = c.args.work.now in
    rw c.in-Write.is (c.widen.ensures)

pub returns-in-Width : goal.returns-in-Width
returns-in-Width c =
    let p = program_of c.args.self.now.steps in
    let s = view_run c.args.run.now in
    let w = c.args.work.now in
    rw c.in-Width.is (c.print_wide.ensures)

pub returns-in-Halt : goal.returns-in-Halt
returns-in-Halt c =
    let p = program_of c.args.self.now.steps in
    let s = view_run c.args.run.now in
    let w = c.args.work.now in
    rw c.in-Halt.is (c.halt.ensures p w s)

pub returns : goal.returns
returns c =
    let p = program_of c.args.self.now.steps in
    let s = view_run c.args.run.now in
    let w = c.args.work.now in
    rw c.in-Unmake.is (c.dispose.ensures)

pub returns-in-Made : goal.returns-in-Made
returns-in-Made c = rw c.in-Made.is refl

pub returns-in-Run : goal.returns-in-Run
returns-in-Run c = rw c.in-Run.is refl
