use Rattle.std.proofs.Common.{◌≡◌, List, ℕ, ◌++◌, ap, ◌∙◌}
use Rattle.interpreter_steps.specs.Running.{view_run}
use Rattle.interpreter.proofs.Starts.{shown_is, shown_error}
use Rattle.interpreter.proofs.program.standing_of.Goals as goal

pub returns-in-Going : goal.returns-in-Going
returns-in-Going c = rw c.in-Going.is (λ o x. shown_is o _ x)

pub returns-in-Ended : goal.returns-in-Ended
returns-in-Ended c = rw c.in-Ended.is (λ o x. shown_is o _ x)

pub returns-in-Undefined : goal.returns-in-Undefined
returns-in-Undefined c = rw c.in-Undefined.is (λ o x. shown_is o _ x)

pub returns-in-Stuck : goal.returns-in-Stuck
returns-in-Stuck c = rw c.in-Stuck.is (λ o x. shown_is o _ x)

pub returns-in_ok-extend_from_slice-in-Error : goal.returns-in_ok-extend_from_slice-in-Error
returns-in_ok-extend_from_slice-in-Error c =
    let front = c.args.run.now.err.items in
    let e = c.in_ok-extend_from_slice-in-Error.ensures.items ∙ ap (λ (text : List ℕ). front ++ text) (c.as_slice.ensures.value ∙ c.in_ok-text-in-Error.ensures) in
    rw c.in-Error.is (λ o x. shown_error o (view_run c.args.run.now) c.in-Error.code _ x e)
