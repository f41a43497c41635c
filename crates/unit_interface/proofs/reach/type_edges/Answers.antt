use Rattle.std.proofs.Common.{◌<◌, arith, length}
use Rattle.unit_interface.proofs.ReachLaws.{edges-step}
use Rattle.unit_interface.proofs.reach.type_edges.Goals as goal

pub loop-number-preserved : goal.loop-number-preserved
loop-number-preserved c =
    let below : c.loop-number.number < length c.args.types.now.types = omega (arith, c.loop-number-test.true, c.count-number-end.ensures.value) in
    rw c.in_ok-push.ensures.items
    (edges-step c.args.types.now.types c.loop-number.edges.items c.loop-number.number c.in_ok-beside.beside below c.in_ok-beside.ensures c.loop-number.invariant)
