use Rattle.std.proofs.Common.{◌≡◌, sym, ap, ◌∙◌}
use Rattle.interpreter_steps.specs.Running.{view_run, program_of}
use Rattle.interpreter_steps.proofs.interpreter_frames.Moves.{moves1, moves2, moves3}
use Rattle.interpreter.proofs.Binds.{two_binds, three_binds, four_binds}
use Rattle.interpreter.proofs.machine.Machine.give_place.Goals as goal

pub returns-in-Load : goal.returns-in-Load
returns-in-Load c =
    let p = program_of c.args.self.now.steps in
    let s = view_run c.args.run.now in
    let w = c.args.work.now in
    rw c.in-Load.is (c.gave_value.ensures p w s _ c.load.ensures)

pub returns-in-Length : goal.returns-in-Length
returns-in-Length c =
    let p = program_of c.args.self.now.steps in
    let s = view_run c.args.run.now in
    let w = c.args.work.now in
    rw c.in-Length.is (c.gave_value-in-Length.ensures p w s _ c.measure.ensures)

pub returns-in-Indexed : goal.returns-in-Indexed
returns-in-Indexed c =
    let p = program_of c.args.self.now.steps in
    let s = view_run c.args.run.now in
    let w = c.args.work.now in
    rw c.in-Indexed.is (rw two_binds (rw c.deref.ensures at (c.evaluate.ensures p s)))

pub returns-in-Field : goal.returns-in-Field
returns-in-Field c =
    let p = program_of c.args.self.now.steps in
    let s = view_run c.args.run.now in
    let w = c.args.work.now in
    rw c.in-Field.is (c.gave_place.ensures p w s _ (c.field_at.ensures s))

pub returns-in-Own : goal.returns-in-Own
returns-in-Own c =
    let p = program_of c.args.self.now.steps in
    let s = view_run c.args.run.now in
    let w = c.args.work.now in
    rw c.in-Own.is (rw c.deref-in-Own.ensures at c.call_on.ensures)

pub returns-in-OfClass : goal.returns-in-OfClass
returns-in-OfClass c =
    let p = program_of c.args.self.now.steps in
    let s = view_run c.args.run.now in
    let w = c.args.work.now in
    rw c.in-OfClass.is (rw two_binds (rw c.new.ensures.items at c.argue.ensures))

pub returns-in-Through : goal.returns-in-Through
returns-in-Through c =
    let p = program_of c.args.self.now.steps in
    let s = view_run c.args.run.now in
    let w = c.args.work.now in
    rw c.in-Through.is (rw two_binds (rw c.new-in-Through.ensures.items at c.argue-in-Through.ensures))

pub returns-in-Argument : goal.returns-in-Argument
returns-in-Argument c =
    let p = program_of c.args.self.now.steps in
    let s = view_run c.args.run.now in
    let w = c.args.work.now in
    rw c.in-Argument.is (c.argue_on.ensures)

pub returns-in-AssignTo : goal.returns-in-AssignTo
returns-in-AssignTo c =
    let p = program_of c.args.self.now.steps in
    let s = view_run c.args.run.now in
    let w = c.args.work.now in
    rw c.in-AssignTo.is (rw two_binds (rw c.deref-in-AssignTo.ensures at (c.evaluate-in-AssignTo.ensures p s)))

pub returns-in-CopyTo : goal.returns-in-CopyTo
returns-in-CopyTo c =
    let p = program_of c.args.self.now.steps in
    let s = view_run c.args.run.now in
    let w = c.args.work.now in
    rw c.in-CopyTo.is (rw two_binds (rw c.deref-in-CopyTo.ensures at (c.locate.ensures p s)))

pub returns-in-CopyFrom : goal.returns-in-CopyFrom
returns-in-CopyFrom c =
    let p = program_of c.args.self.now.steps in
    let s = view_run c.args.run.now in
    let w = c.args.work.now in
    rw c.in-CopyFrom.is (rw two_binds (c.done.ensures p w (view_run c.copy.new.run) _ c.copy.ensures))

pub returns-in-With : goal.returns-in-With
returns-in-With c =
    let p = program_of c.args.self.now.steps in
    let s = view_run c.args.run.now in
    let w = c.args.work.now in
    rw c.in-With.is (rw c.deref-in-With.ensures at (c.hold.ensures p s))

pub returns : goal.returns
returns c =
    let p = program_of c.args.self.now.steps in
    let s = view_run c.args.run.now in
    let w = c.args.work.now in
    rw c.in-Read.is (c.read_item.ensures)
