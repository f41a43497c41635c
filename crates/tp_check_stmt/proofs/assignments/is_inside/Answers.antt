use Rattle.std.proofs.Common.{◌<◌, arith}
use Rattle.scopes.specs.Environment.{block_count}
use Rattle.tp_check_stmt.proofs.InsideLaws.{step}
use Rattle.tp_check_stmt.proofs.assignments.is_inside.Goals as goal

pub loop-number-preserved : goal.loop-number-preserved
loop-number-preserved c =
    let h : c.loop-number.number < block_count c.args.scope.now = omega (arith, c.blocks-number-end.ensures, c.loop-number-test.true) in
    let s = step c.args.routine.number c.args.scope.now c.loop-number.number h in
    cc (s, c.or_is_body-inside.ensures, c.block.ensures, c.loop-number.invariant)
