use Rattle.interpreter.proofs.Binds.{again_at}
use Rattle.std.proofs.Common.{◌≡◌, true, false, refl, sym, ap, ◌∙◌, append-nil}
use Rattle.std.proofs.lemmas.Result.{err_from_is_err_and}
use Rattle.tp_meaning.specs.Operators.{is_true}
use Rattle.interpreter_steps.specs.Running.{view_run, view_flow, program_of}
use Rattle.interpreter_steps.proofs.Ends.{ends_bind}
use Rattle.interpreter_steps.proofs.interpreter_frames.Lists.{nil_of, cons_of}
use Rattle.interpreter_steps.proofs.interpreter_frames.Moves.{goes, moves1, moves2, moves3, moves_found, moves_found2, moves_again, moves_spent, ends_two, ends_three, ends_spent, ends_found}
use Rattle.std.proofs.Common.{rules, w32, to_z, of_z}
use Rattle.std.proofs.lemmas.Int.{to_z-of_z}
use Rattle.std.specs.Prelude.{ℤ}
use Rattle.std.proofs.Common.{subst}
use Rattle.interpreter.proofs.resumption.choose.Goals as goal

pub returns-in_err-z : goal.returns-in_err-z
returns-in_err-z c =
    let q = err_from_is_err_and c.from_residual.result c.from_residual.ensures.1 in
    rw (q.1, q.2) (λ p work s. ends_three c.in_err-z.field-0.0 s _ _ _ _ (c.in_err-z.ensures s))

pub returns-then-is_true : goal.returns-then-is_true
returns-then-is_true c =
    let w : to_z w32 (of_z w32 c.in_ok-z.z) ≡ c.in_ok-z.z = search rules in
    let is : is_true c.in_ok-z.z ≡ true = ap is_true (sym w) ∙ sym c.is_true.ensures ∙ c.if-is_true.true in
    λ p work s. let found = c.in_ok-z.ensures s in rw (found, is) refl

pub returns-else-is_true : goal.returns-else-is_true
returns-else-is_true c =
    let w : to_z w32 (of_z w32 c.in_ok-z.z) ≡ c.in_ok-z.z = search rules in
    let is : is_true c.in_ok-z.z ≡ false = ap is_true (sym w) ∙ sym c.is_true.ensures ∙ c.if-is_true.false in
    λ p work s. let found = c.in_ok-z.ensures s in rw (found, is) refl
