use Rattle.std.proofs.Common.{◌∙◌, arith}
use Rattle.overlay_manager.proofs.LoadLaws.{loads-next, whole-next, read-at, lies-at}
use Rattle.overlay_manager.proofs.WithinLaws.{within-then, others-next}
use Rattle.overlay_manager.proofs.serving.load_all.Goals as goal

pub returns-in-Err-clause-within : goal.returns-in-Err-clause-within
returns-in-Err-clause-within g c = λ low high lies.
    let k = c.loop-number.number in
    let old = c.args.tables.now.old.items in
    let new = c.args.tables.now.new.items in
    let was = read-at old k c.index-was.result.now (omega (arith, c.loop-number-test.true, c.requires.old)) c.index-was.ensures in
    let now = read-at new k c.index-now.result.now (omega (arith, c.loop-number-test.true, c.requires.new)) c.index-now.ensures in
    within-then low high c.args.machine.now.memory c.loop-number.machine.memory c.load_moved.new.machine.memory (c.loop-number.invariant.within low high lies)
    (c.in-Err.ensures.within low high (lies-at low high c.args.entries.now old new k c.index-entries-number.result c.index-was.result.now c.index-now.result.now c.loop-number-test.true c.index-entries-number.is was now lies))

pub loop-number-preserved : goal.loop-number-preserved
loop-number-preserved g c =
    let k = c.loop-number.number in
    let before = c.loop-number.invariant in
    let entries = c.args.entries.now in
    let old = c.args.tables.now.old.items in
    let new = c.args.tables.now.new.items in
    let was = read-at old k c.index-was.result.now (omega (arith, c.loop-number-test.true, c.requires.old)) c.index-was.ensures in
    let now = read-at new k c.index-now.result.now (omega (arith, c.loop-number-test.true, c.requires.new)) c.index-now.ensures in
    record {
      block = c.load_moved.auto.block ∙ before.block;
      unchanged = c.in-Ok.ensures.unchanged ∙ before.unchanged;
      counted = omega (arith, before.counted, c.in-Ok.ensures.counted);
      told = loads-next _ _ c.args.name.now entries old new k c.index-entries-number.result c.index-was.result.now c.index-now.result.now c.args.machine.now c.loop-number.machine c.load_moved.new.machine before.unchanged
          c.loop-number-test.true (omega (arith, c.loop-number-test.true, c.requires.old)) (omega (arith, c.loop-number-test.true, c.requires.new)) c.index-entries-number.is c.index-was.ensures c.index-now.ensures before.told c.in-Ok.ensures.told;
      whole = whole-next _ _ c.args.name.now entries old new k c.index-entries-number.result c.index-was.result.now c.index-now.result.now before.unchanged c.loop-number-test.true c.index-entries-number.is was now before.whole c.in-Ok.ensures.whole;
      others = others-next c.args.machine.now c.loop-number.machine c.load_moved.new.machine c.load_moved.new.machine.memory c.in-Ok.ensures.others before.others;
      within = λ low high lies. within-then low high c.args.machine.now.memory c.loop-number.machine.memory c.load_moved.new.machine.memory (before.within low high lies)
          (c.in-Ok.ensures.within low high (lies-at low high entries old new k c.index-entries-number.result c.index-was.result.now c.index-now.result.now c.loop-number-test.true c.index-entries-number.is was now lies));
    }
