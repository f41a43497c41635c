use Rattle.interpreter.proofs.Binds.{again_at}
use Rattle.std.proofs.Common.{◌≡◌, true, false, refl, sym, ap, ◌∙◌, append-nil}
use Rattle.std.proofs.lemmas.Result.{err_from_is_err_and}
use Rattle.tp_meaning.specs.Operators.{is_true}
use Rattle.interpreter_steps.specs.Running.{view_run, view_flow, program_of}
use Rattle.interpreter_steps.proofs.Ends.{ends_bind}
use Rattle.interpreter_steps.proofs.interpreter_frames.Lists.{nil_of, cons_of}
use Rattle.interpreter_steps.proofs.interpreter_frames.Moves.{goes, moves1, moves2, moves3, moves_found, moves_found2, moves_again, moves_spent, ends_two, ends_three, ends_spent, ends_found}
use Rattle.interpreter.proofs.machine.Machine.step.Goals as goal

pub returns-in-Evaluate : goal.returns-in-Evaluate
returns-in-Evaluate c =
    let p = program_of c.args.self.now.steps in
    let s = view_run c.args.run.now in
    rw c.in-Evaluate.is (c.going.ensures p c.evaluate.new.work (view_run c.evaluate.new.run) _ c.evaluate.ensures)

pub returns-in-Locate : goal.returns-in-Locate
returns-in-Locate c =
    let p = program_of c.args.self.now.steps in
    let s = view_run c.args.run.now in
    rw c.in-Locate.is (c.going-in-Locate.ensures p c.locate.new.work (view_run c.args.run.now) _ c.locate.ensures)

pub returns-in-Execute : goal.returns-in-Execute
returns-in-Execute c =
    let p = program_of c.args.self.now.steps in
    let s = view_run c.args.run.now in
    rw c.in-Execute.is (c.going-in-Execute.ensures p c.execute.new.work (view_run c.execute.new.run) _ c.execute.ensures)

pub returns-in-Value : goal.returns-in-Value
returns-in-Value c =
    rw c.in-Value.is c.value_step.ensures

pub returns-in-Place : goal.returns-in-Place
returns-in-Place c =
    rw c.in-Place.is c.place_step.ensures

pub returns-in-Flow : goal.returns-in-Flow
returns-in-Flow c =
    rw c.in-Flow.is c.flow_step.ensures
