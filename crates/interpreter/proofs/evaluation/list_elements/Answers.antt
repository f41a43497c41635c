use Rattle.interpreter.proofs.Binds.{again_at}
use Rattle.std.proofs.Common.{◌≡◌, true, false, refl, sym, ap, ◌∙◌, append-nil}
use Rattle.std.proofs.lemmas.Result.{err_from_is_err_and}
use Rattle.tp_meaning.specs.Operators.{is_true}
use Rattle.interpreter_steps.specs.Running.{view_run, view_flow, program_of}
use Rattle.interpreter_steps.proofs.Ends.{ends_bind}
use Rattle.interpreter_steps.proofs.interpreter_frames.Lists.{nil_of, cons_of}
use Rattle.interpreter_steps.proofs.interpreter_frames.Moves.{goes, moves1, moves2, moves3, moves_found, moves_found2, moves_again, moves_spent, ends_two, ends_three, ends_spent, ends_found}
use Rattle.interpreter.proofs.evaluation.list_elements.Goals as goal

pub returns-in-empty : goal.returns-in-empty
returns-in-empty c =
    λ p s. rw (nil_of c.args.listed.now c.in-empty.len_below, c.from_vec.ensures) refl

pub returns-in-len1-up : goal.returns-in-len1-up
returns-in-len1-up c =
    λ p s. rw (cons_of c.args.listed.now c.first-item.result c.in-len1-up.len_at_least c.first-item.is) (c.list_element.ensures p s)
