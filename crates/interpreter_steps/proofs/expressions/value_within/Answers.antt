use Rattle.std.proofs.Common.{w32}
use Rattle.std.proofs.lemmas.Int.{to_z-of_z}
use Rattle.std.proofs.lemmas.Result.{err_from_is_err_and}
use Rattle.interpreter_steps.proofs.Ends.{trap_ends}
use Rattle.interpreter_steps.proofs.expressions.value_within.Goals as goal

pub returns-in_err-ranged : goal.returns-in_err-ranged
returns-in_err-ranged c =
    let p = err_from_is_err_and c.from_residual.result c.from_residual.ensures.1 in
    let found = rw (to_z-of_z w32 c.args.low c.ranges.low, to_z-of_z w32 c.args.high c.ranges.high) at c.in_err-ranged.ensures in
    rw (p.1, p.2) (λ s. trap_ends c.in_err-ranged.field-0.0 s _ found)
