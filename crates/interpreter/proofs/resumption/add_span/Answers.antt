use Rattle.std.proofs.Common.{◌≡◌, true, false, refl, sym, ap, ◌∙◌}
use Rattle.std.proofs.lemmas.Result.{err_from_is_err_and}
use Rattle.tp_meaning.specs.Operators.{is_true}
use Rattle.interpreter_steps.specs.Running.{view_run, program_of}
use Rattle.interpreter_steps.proofs.Ends.{ends_bind}
use Rattle.interpreter_steps.proofs.interpreter_frames.Moves.{moves1, moves2, moves3, moves_found, moves_again, moves_spent, ends_two, ends_three, ends_spent, ends_found}
use Rattle.interpreter.proofs.resumption.add_span.Goals as goal

pub returns-in_err-all : goal.returns-in_err-all
returns-in_err-all c =
    let q = err_from_is_err_and c.from_residual.result c.from_residual.ensures.1 in
    rw (q.1, q.2) (λ p s. ends_two c.in_err-all.field-0.0 s _ _ _ (c.in_err-all.ensures s))

pub returns : goal.returns
returns c =
    λ p s. moves_found p _ _ s _ _ _ _ (c.in_ok-all.ensures s) (c.list_elements.ensures p s)
