use Rattle.interpreter.proofs.Binds.{two_binds, three_binds, four_binds}
use Rattle.interpreter.proofs.Binds.{again_at}
use Rattle.std.proofs.Common.{◌≡◌, true, false, refl, sym, ap, ◌∙◌, append-nil}
use Rattle.std.proofs.lemmas.Result.{err_from_is_err_and}
use Rattle.tp_meaning.specs.Operators.{is_true}
use Rattle.interpreter_steps.specs.Running.{view_run, view_flow, program_of}
use Rattle.interpreter_steps.proofs.Ends.{ends_bind}
use Rattle.interpreter_steps.proofs.interpreter_frames.Lists.{nil_of, cons_of}
use Rattle.interpreter_steps.proofs.interpreter_frames.Moves.{goes, moves1, moves2, moves3, moves_found, moves_found2, moves_again, moves_spent, ends_two, ends_three, ends_spent, ends_found}
use Rattle.interpreter.proofs.execution.write.Goals as goal

pub returns-in-empty : goal.returns-in-empty
returns-in-empty c =
    λ p. rw (nil_of c.args.items.now c.in-empty.len_below) (c.gave_flow.ensures p c.args.work.now (view_run c.end_line.new.run) _ c.end_line.ensures)

pub returns-in_err-sort-in-len1-up : goal.returns-in_err-sort-in-len1-up
returns-in_err-sort-in-len1-up c =
    let s = view_run c.args.run.now in
    let q = err_from_is_err_and c.from_residual.result c.from_residual.ensures.1 in
    λ p. rw (q.1, q.2, cons_of c.args.items.now c.item-item.result c.in-len1-up.len_at_least c.item-item.is) (ends_three c.in_err-sort-in-len1-up.field-0.0 s _ _ _ _ (rw c.deref.ensures at (c.in_err-sort-in-len1-up.ensures s)))

pub returns-in_ok-sort-in-len1-up : goal.returns-in_ok-sort-in-len1-up
returns-in_ok-sort-in-len1-up c =
    let s = view_run c.args.run.now in
    λ p. rw (cons_of c.args.items.now c.item-item.result c.in-len1-up.len_at_least c.item-item.is) (moves_found2 p _ _ s _ _ _ _ _ (rw c.deref.ensures at (c.in_ok-sort-in-len1-up.ensures s)) (rw three_binds (rw c.deref-in-len1-up.ensures at (c.evaluate.ensures p s))))
