use Rattle.std.proofs.Common.{◌≡◌, sym, ap, subst, arith, rules, w32, w64, to_z, of_z}
use Rattle.std.specs.Prelude.{ℤ}
use Rattle.std.proofs.lemmas.Int.{ints, to_z-of_z}
use Rattle.std.proofs.lemmas.Result.{err_from_is_err_and}
use Rattle.interpreter_store.specs.typed_cells.Sorts.{view_reached}
use Rattle.tp_meaning.specs.Outcomes.{Outcome, and_then, changed}
use Rattle.tp_meaning.specs.Standard.{number_assigned}
use Rattle.interpreter_steps.specs.Running.{view_run, Comes}
use Rattle.interpreter_steps.proofs.Ends.{ends_bind}
use Rattle.interpreter_steps.proofs.state.Interpreter.store_tested.Goals as goal

pub returns-in_err-z : goal.returns-in_err-z
returns-in_err-z c =
    let s = view_run c.args.run.now in
    let q = err_from_is_err_and c.from_residual.result c.from_residual.ensures.1 in
    let x = rw (to_z-of_z w32 c.args.z c.ranges.z) at (c.in_err-z.ensures s) in
    rw (q.1, q.2) (ends_bind c.in_err-z.field-0.0 s _ _ x)

pub returns : goal.returns
returns c =
    let s = view_run c.args.run.now in
    let t = view_run c.store_number.new.run in
    let at = view_reached c.args.at.now in
    let done = c.store_number.result in
    let d = rw (to_z-of_z w32 c.args.z c.ranges.z) at (c.in_ok-z.ensures s) in
    let n : to_z w64 (of_z w64 c.from.result) ≡ c.in_ok-z.z = first_of (search rules, grind (arith, ints, to_z-of_z)) in
    let x = subst (λ (z : ℤ). Comes {A = Unit {0}} {B = Unit {0}} (λ done. done) done t (changed (number_assigned at z) s)) n c.store_number.ensures in
    subst (Comes {A = Unit {0}} {B = Unit {0}} (λ done. done) done t) (sym (ap (λ (o : Outcome ℤ). and_then o (λ w. changed (number_assigned at w))) d)) x
