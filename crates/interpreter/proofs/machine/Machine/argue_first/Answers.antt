use Rattle.interpreter.proofs.Binds.{two_binds, three_binds, four_binds}
use Rattle.interpreter.proofs.Binds.{again_at}
use Rattle.std.proofs.Common.{◌≡◌, true, false, refl, sym, ap, ◌∙◌, append-nil}
use Rattle.std.proofs.lemmas.Result.{err_from_is_err_and}
use Rattle.tp_meaning.specs.Operators.{is_true}
use Rattle.interpreter_steps.specs.Running.{view_run, view_flow, program_of}
use Rattle.interpreter_steps.proofs.Ends.{ends_bind}
use Rattle.interpreter_steps.proofs.interpreter_frames.Lists.{nil_of, cons_of}
use Rattle.interpreter_steps.proofs.interpreter_frames.Moves.{goes, moves1, moves2, moves3, moves_found, moves_found2, moves_again, moves_spent, ends_two, ends_three, ends_spent, ends_found}
use Rattle.interpreter.proofs.machine.Machine.argue_first.Goals as goal

pub returns-in_err-sort-in-Value : goal.returns-in_err-sort-in-Value
returns-in_err-sort-in-Value c =
    let p = program_of c.args.self.now.steps in
    let s = view_run c.args.run.now in
    let q = err_from_is_err_and c.from_residual.result c.from_residual.ensures.1 in
    rw (q.1, q.2, c.in-Value.is) (ends_two c.in_err-sort-in-Value.field-0.0 s _ _ _ (c.in_err-sort-in-Value.ensures s))

pub returns-in_ok-sort-in-Value : goal.returns-in_ok-sort-in-Value
returns-in_ok-sort-in-Value c =
    let p = program_of c.args.self.now.steps in
    let s = view_run c.args.run.now in
    rw c.in-Value.is (moves_found p _ _ s _ _ _ _ (c.in_ok-sort-in-Value.ensures s) (rw two_binds (c.evaluate.ensures p s)))

pub returns-in-Place : goal.returns-in-Place
returns-in-Place c =
    let p = program_of c.args.self.now.steps in
    let s = view_run c.args.run.now in
    rw c.in-Place.is (rw two_binds (c.locate.ensures p s))
