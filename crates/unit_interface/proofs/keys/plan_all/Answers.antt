use Rattle.unit_interface.proofs.MergeLaws.{ids-step, ids-end}
use Rattle.unit_interface.proofs.keys.plan_all.Goals as goal

pub loop-key-preserved : goal.loop-key-preserved
loop-key-preserved c =
    rw (c.in_ok-push.ensures.ok, c.in_ok-id.ensures.known, c.copied.ensures)
    (ids-step c.args.known c.args.keys.now c.loop-key.known c.loop-key.ids c.loop-key.key-index c.key-item.result c.in_ok-id.id
    c.loop-key-test.true c.key-item.is (rw c.copied.ensures at c.in_ok-id.ensures.id) c.loop-key.invariant)

pub returns : goal.returns
returns c = ids-end c.args.known c.args.keys.now c.loop-key.known c.loop-key.ids c.loop-key.key-index c.loop-key-test.false c.loop-key.invariant
