use Rattle.std.proofs.Common.{◌≡◌, true, false, refl, sym, ap, ◌∙◌}
use Rattle.std.proofs.lemmas.Result.{err_from_is_err_and}
use Rattle.tp_meaning.specs.Operators.{is_true}
use Rattle.interpreter_steps.specs.Running.{view_run, program_of}
use Rattle.interpreter_steps.proofs.Ends.{ends_bind}
use Rattle.interpreter_steps.proofs.interpreter_frames.Moves.{moves1, moves2, moves3, moves_found, moves_again, moves_spent, ends_two, ends_three, ends_spent, ends_found}
use Rattle.interpreter.proofs.Binds.{two_binds, three_binds, four_binds}
use Rattle.interpreter.proofs.machine.Machine.widen.Goals as goal

pub returns-in-None : goal.returns-in-None
returns-in-None c =
    let p = program_of c.args.self.now.steps in
    let s = view_run c.args.run.now in
    rw c.in-None.is c.print.ensures

pub returns : goal.returns
returns c =
    let p = program_of c.args.self.now.steps in
    let s = view_run c.args.run.now in
    rw c.in-Some.is (rw four_binds (rw c.deref.ensures at (c.evaluate.ensures p s)))
