use Rattle.interpreter.proofs.Binds.{two_binds, three_binds, four_binds}
use Rattle.interpreter.proofs.Binds.{again_at}
use Rattle.std.proofs.Common.{◌≡◌, true, false, refl, sym, ap, ◌∙◌, append-nil}
use Rattle.std.proofs.lemmas.Result.{err_from_is_err_and}
use Rattle.tp_meaning.specs.Operators.{is_true}
use Rattle.interpreter_steps.specs.Running.{view_run, view_flow, program_of}
use Rattle.interpreter_steps.proofs.Ends.{ends_bind}
use Rattle.interpreter_steps.proofs.interpreter_frames.Lists.{nil_of, cons_of}
use Rattle.interpreter_steps.proofs.interpreter_frames.Moves.{goes, moves1, moves2, moves3, moves_found, moves_found2, moves_again, moves_spent, ends_two, ends_three, ends_spent, ends_found}
use Rattle.interpreter.proofs.loops.follow_repeat.Goals as goal

pub returns-in-Next : goal.returns-in-Next
returns-in-Next c =
    λ p s. rw c.in-Next.is (rw four_binds (rw c.deref.ensures at (c.evaluate.ensures p s)))

pub returns-in-Left : goal.returns-in-Left
returns-in-Left c =
    λ p s. rw c.in-Left.is refl
