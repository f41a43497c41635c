use Rattle.std.proofs.Common.{◌<◌, arith}
use Rattle.scopes.specs.Environment.{block_count}
use Rattle.tp_check_expr.proofs.DepthLaws.{step}
use Rattle.tp_check_expr.proofs.names.routine_depth.Goals as goal

pub loop-number-preserved : goal.loop-number-preserved
loop-number-preserved c =
    let h : c.loop-number.number < block_count c.args.scope.now = omega (arith, c.blocks-number-end.ensures, c.loop-number-test.true) in
    let s = step c.args.scope.now c.loop-number.number h in
    record { counted = cc (s, c.deeper-depth.ensures.value, c.block.ensures, c.loop-number.invariant.counted); few = omega (arith, c.deeper-depth.ensures.bound, c.loop-number.invariant.few) }
