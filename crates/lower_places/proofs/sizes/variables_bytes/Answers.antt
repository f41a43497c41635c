use Rattle.std.proofs.Common.{arith, ◌≤◌}
use Rattle.std.specs.Prelude.{sum_by}
use Rattle.std.proofs.lemmas.List.Sums.{sum_by_more_le}
use Rattle.typed_tree.specs.Frames.{even_size}
use Rattle.lower_places.proofs.Tables.{on_err}
use Rattle.lower_places.proofs.sizes.variables_bytes.Goals as goal

pub returns-in_err-bytes-clause-cause : goal.returns-in_err-bytes-clause-cause
returns-in_err-bytes-clause-cause c =
    let more = sum_by_more_le (even_size c.args.types.now.types) c.args.variables.now c.loop-ty.ty-index (record { 0 = 0 }) c.loop-ty-test.true in
    let cause = c.in_err-bytes.ensures.cause in
    let passed : 4294967296 ≤ sum_by (even_size c.args.types.now.types) c.args.variables.now = omega (arith, more, cause) in
    on_err c.from_residual.result passed
