use Rattle.std.proofs.Common.{◌≡◌, ◌+◌, ◌-◌, arith}
use Rattle.front_end.proofs.source_interfaces.Rounds.{then_grown, steps_more}
use Rattle.front_end.proofs.source_interfaces.interfaces.show_round.Goals as goal

pub loop-place-preserved : goal.loop-place-preserved
loop-place-preserved c =
    let sources = c.args.sources.now in
    let old = c.args.have.now.items in
    let now = c.loop-place.have.items in
    let new = c.show_due.new.have.items in
    let place = c.loop-place.place in
    let before = c.loop-place.invariant in
    let now_on = c.in_ok-show_due.ensures in
    let next : place ≡ place - 1 + 1 = omega (arith, c.loop-place-test.true) in (
      omega (arith, before.0),
      now_on.shown,
      then_grown old now new before.2 now_on.grown,
      steps_more sources old now new (place - 1) place next before.2 now_on.grown before.3 now_on.step,
    )
