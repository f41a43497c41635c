use Rattle.interpreter.proofs.Binds.{again_at}
use Rattle.std.proofs.Common.{◌≡◌, true, false, refl, sym, ap, ◌∙◌, append-nil}
use Rattle.std.proofs.lemmas.Result.{err_from_is_err_and}
use Rattle.tp_meaning.specs.Operators.{is_true}
use Rattle.interpreter_steps.specs.Running.{view_run, view_flow, program_of}
use Rattle.interpreter_steps.proofs.Ends.{ends_bind}
use Rattle.interpreter_steps.proofs.interpreter_frames.Lists.{nil_of, cons_of}
use Rattle.interpreter_steps.proofs.interpreter_frames.Moves.{goes, moves1, moves2, moves3, moves_found, moves_found2, moves_again, moves_spent, ends_two, ends_three, ends_spent, ends_found}
use Rattle.interpreter.proofs.machine.Machine.finish.Goals as goal

pub steps-preserved : goal.steps-preserved
steps-preserved c =
    c.steps.invariant ∙ (rw c.in-Goes.is at c.in_ok-one.ensures)

pub returns-in-Gave : goal.returns-in-Gave
returns-in-Gave c =
    c.steps.invariant ∙ (rw c.in-Gave.is at c.in_ok-one.ensures)

pub returns-in_err-one : goal.returns-in_err-one
returns-in_err-one c =
    let q = err_from_is_err_and c.from_residual.result c.from_residual.ensures.1 in
    rw (q.1, q.2, c.steps.invariant) c.in_err-one.ensures
