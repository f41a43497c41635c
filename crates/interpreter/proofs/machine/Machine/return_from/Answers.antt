use Rattle.std.proofs.Common.{◌≡◌, true, false, refl, sym, ap, ◌∙◌}
use Rattle.std.proofs.lemmas.Result.{err_from_is_err_and}
use Rattle.tp_meaning.specs.Operators.{is_true}
use Rattle.interpreter_steps.specs.Running.{view_run, program_of}
use Rattle.interpreter_steps.proofs.Ends.{ends_bind}
use Rattle.interpreter_steps.proofs.interpreter_frames.Moves.{moves1, moves2, moves3, moves_found, moves_again, moves_spent, ends_two, ends_three, ends_spent, ends_found}
use Rattle.interpreter.proofs.machine.Machine.return_from.Goals as goal

pub returns : goal.returns
returns c =
    let p = program_of c.args.self.now.steps in
    let s = view_run c.args.run.now in
    rw (sym c.into_inner-back.ensures) (c.gave_value.ensures p (record c.args.work.now { f = c.into_inner-back.result.caller }) (view_run c.end.new.run) _ c.end.ensures)
