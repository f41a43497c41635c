use Rattle.std.proofs.Common.{length-take, length-drop, ℕ, arith}
use Rattle.tp_outside.proofs.Known.{append_known-take}
use Rattle.tp_outside.proofs.sinks.write_all.Goals as goal

pub loop-at-preserved : goal.loop-at-preserved
loop-at-preserved g c =
    let before = c.loop-at.invariant in
    let ensured = c.in_ok-at.ensures in (
      omega (arith, ensured.bound, length-take {A = ℕ}, length-drop {A = ℕ}),
      append_known-take _ _ _ c.args.bytes.now c.loop-at.at c.in_ok-at.field-0 before.1 ensured.taken,
      omega (arith, before.2, ensured.counted),
    )
