use Rattle.std.proofs.Common.{◌≡◌, ℕ, ◌+◌, ◌*◌, ◌++◌, ◌∙◌, List, take, drop, length, length-take, length-append, length-drop, IfSome, sym, ap, subst, arith}
use Rattle.std.proofs.lemmas.List.{take_at}
use Rattle.cpu_8086.specs.State.{State}
use Rattle.mz_file.specs.Words.{words_at}
use Rattle.tp_outside.specs.Folder.{bytes_of}
use Rattle.overlay_manager.specs.Code.{part_of, with_fixups}
use Rattle.overlay_manager.proofs.PartLaws.{fixed-next, fixed-whole}
use Rattle.overlay_manager.proofs.WithinLaws.{within-then, fixed-within, others-next}
use Rattle.overlay_manager.proofs.loading.load_fixups.Goals as goal

-- one part of the fixups more
pub loop-done-preserved : goal.loop-done-preserved
loop-done-preserved g c =
    let before = c.loop-done.invariant in
    let ensured = c.in_ok-fill.ensures in
    let count = c.min-count.result in
    let filled = c.fill.new.into in
    let place : ℕ = c.args.place in
    let at : ℕ = place + 2 * c.loop-done.done in
    let size : length filled ≡ 2 * count = omega (arith, c.fill.auto.into, c.min-count.ensures, length-take (2 * count) c.loop-done.block, before.block) in
    let told_long : IfSome (g.F.Files.folder c.loop-done.files) (λ held. filled ≡ part_of (bytes_of held c.args.name.now) at (length (take (2 * count) c.loop-done.block))) = ensured.told in
    let told : IfSome (g.F.Files.folder c.loop-done.files) (λ held. filled ≡ part_of (bytes_of held c.args.name.now) at (2 * count)) =
    subst (λ (n : ℕ). IfSome (g.F.Files.folder c.loop-done.files) (λ held. filled ≡ part_of (bytes_of held c.args.name.now) at n)) (sym c.fill.auto.into ∙ size) told_long in
    let bytes : take (2 * count) (filled ++ drop (2 * count) c.loop-done.block) ≡ filled = take_at filled (drop (2 * count) c.loop-done.block) (2 * count) size in
    let made = c.make_fixups.ensures ∙ ap (λ (xs : List ℕ). let s : State = record c.loop-done.machine { memory = with_fixups c.args.size c.args.segment c.loop-done.machine.memory (words_at xs 0 count) } in s) bytes in
    record {
      bound = omega (arith, c.min-count.ensures);
      block = omega (arith, size, before.block, length-append filled (drop (2 * count) c.loop-done.block), length-drop (2 * count) c.loop-done.block, c.min-count.ensures);
      unchanged = ensured.unchanged ∙ before.unchanged;
      counted = omega (arith, before.counted, ensured.counted);
      told = fixed-next _ _ c.args.name.now filled c.args.machine.now c.loop-done.machine c.make_fixups.new.machine c.args.size c.args.segment place c.loop-done.done count before.unchanged before.told told made;
      whole = fixed-whole _ _ c.args.name.now filled place c.loop-done.done count before.unchanged (omega (arith, c.min-count.ensures)) size told;
      others = others-next c.args.machine.now c.loop-done.machine c.make_fixups.new.machine (with_fixups c.args.size c.args.segment c.loop-done.machine.memory (words_at filled 0 count)) made before.others;
      within = λ low high lies. within-then low high c.args.machine.now.memory c.loop-done.machine.memory c.make_fixups.new.machine.memory (before.within low high lies)
          (fixed-within low high c.loop-done.machine c.make_fixups.new.machine c.args.segment c.args.size (words_at filled 0 count) lies made (omega arith));
    }
