use Rattle.interpreter.proofs.Binds.{again_at}
use Rattle.std.proofs.Common.{◌≡◌, true, false, refl, sym, ap, ◌∙◌, append-nil}
use Rattle.std.proofs.lemmas.Result.{err_from_is_err_and}
use Rattle.tp_meaning.specs.Operators.{is_true}
use Rattle.interpreter_steps.specs.Running.{view_run, view_flow, program_of}
use Rattle.interpreter_steps.proofs.Ends.{ends_bind}
use Rattle.interpreter_steps.proofs.interpreter_frames.Lists.{nil_of, cons_of}
use Rattle.interpreter_steps.proofs.interpreter_frames.Moves.{goes, moves1, moves2, moves3, moves_found, moves_found2, moves_again, moves_spent, ends_two, ends_three, ends_spent, ends_found}
use Rattle.interpreter.proofs.machine.Machine.place_to.Goals as goal

pub returns-in-Place : goal.returns-in-Place
returns-in-Place c =
    let p = program_of c.args.self.now.steps in
    let s = view_run c.args.run.now in
    rw c.in-Place.is (c.going.ensures p c.give_place.new.work (view_run c.give_place.new.run) _ c.give_place.ensures)

pub returns-in-Value : goal.returns-in-Value
returns-in-Value c =
    rw c.in-Value.is refl

pub returns : goal.returns
returns c =
    rw c.in-Flow.is refl
