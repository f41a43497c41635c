use Rattle.std.proofs.Common.{◌≡◌, Err, arith, w32}
use Rattle.std.proofs.lemmas.Int.{ints, to_z-of_z}
use Rattle.std.proofs.lemmas.Result.{err_from_is_err_and}
use Rattle.std.specs.Option.{option_copied}
use Rattle.type_layout.specs.Layouts.{bounds_of}
use Rattle.interpreter_store.specs.cell_store.Finding.{view_trap}
use Rattle.tp_meaning.specs.Operators.{within}
use Rattle.interpreter_steps.proofs.Ends.{trap_ends}
use Rattle.interpreter_steps.proofs.statements.tested.Goals as goal

pub returns-in_err-within : goal.returns-in_err-within
returns-in_err-within c =
    let p = err_from_is_err_and c.from_residual.result c.from_residual.ensures.1 in
    let bounds = bounds_of (option_copied c.args.one) in
    let found : within bounds.0 bounds.1 c.args.z ≡ Err (view_trap c.in_err-within.field-0.0) = grind (arith, ints, to_z-of_z) in
    rw (p.1, p.2, c.if-checked.true) (λ s. trap_ends c.in_err-within.field-0.0 s _ found)
