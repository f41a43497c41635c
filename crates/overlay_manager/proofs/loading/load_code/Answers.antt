use Rattle.std.proofs.Common.{◌≡◌, ℕ, ◌+◌, ◌++◌, ◌∙◌, List, take, drop, length, length-take, length-append, length-drop, IfSome, sym, ap, subst, arith}
use Rattle.std.proofs.lemmas.List.{take_at}
use Rattle.cpu_8086.specs.State.{State}
use Rattle.cpu_8086.specs.Process.{with_bytes}
use Rattle.tp_outside.specs.Folder.{bytes_of}
use Rattle.overlay_manager.specs.Code.{part_of}
use Rattle.overlay_manager.proofs.PartLaws.{loaded-next, loaded-whole}
use Rattle.overlay_manager.proofs.WithinLaws.{within-then, put-within, others-next}
use Rattle.overlay_manager.proofs.loading.load_code.Goals as goal

-- one part of the code more
pub loop-done-preserved : goal.loop-done-preserved
loop-done-preserved g c =
    let before = c.loop-done.invariant in
    let ensured = c.in_ok-fill.ensures in
    let count = c.min-count.result in
    let filled = c.fill.new.into in
    let place : ℕ = c.from-place.result + c.loop-done.done in
    let size : length filled ≡ count = omega (arith, c.fill.auto.into, c.min-count.ensures, length-take count c.loop-done.block, before.block) in
    let told_long : IfSome (g.F.Files.folder c.loop-done.files) (λ held. filled ≡ part_of (bytes_of held c.args.name.now) place (length (take count c.loop-done.block))) = ensured.told in
    let told : IfSome (g.F.Files.folder c.loop-done.files) (λ held. filled ≡ part_of (bytes_of held c.args.name.now) place count) =
    subst (λ (n : ℕ). IfSome (g.F.Files.folder c.loop-done.files) (λ held. filled ≡ part_of (bytes_of held c.args.name.now) place n)) (sym c.fill.auto.into ∙ size) told_long in
    let bytes : take count (filled ++ drop count c.loop-done.block) ≡ filled = take_at filled (drop count c.loop-done.block) count size in
    let put = c.put_bytes.ensures ∙ ap (λ (xs : List ℕ). let s : State = record c.loop-done.machine { memory = with_bytes c.loop-done.machine.memory c.args.segment c.loop-done.done xs } in s) bytes in
    record {
      bound = omega (arith, c.min-count.ensures);
      block = omega (arith, size, before.block, length-append filled (drop count c.loop-done.block), length-drop count c.loop-done.block, c.min-count.ensures);
      unchanged = ensured.unchanged ∙ before.unchanged;
      counted = omega (arith, before.counted, ensured.counted);
      told = loaded-next _ _ c.args.name.now filled c.args.machine.now c.loop-done.machine c.put_bytes.new.machine c.args.segment c.from-place.result c.loop-done.done count before.unchanged (omega (arith, c.min-count.ensures)) (omega (arith, c.from-size.ensures)) size before.told told put;
      whole = loaded-whole _ _ c.args.name.now filled c.from-place.result c.loop-done.done count before.unchanged (omega (arith, c.min-count.ensures)) size told;
      others = others-next c.args.machine.now c.loop-done.machine c.put_bytes.new.machine (with_bytes c.loop-done.machine.memory c.args.segment c.loop-done.done filled) put before.others;
      within = λ low high lies. within-then low high c.args.machine.now.memory c.loop-done.machine.memory c.put_bytes.new.machine.memory (before.within low high lies)
          (put-within low high c.loop-done.machine c.put_bytes.new.machine c.args.segment c.loop-done.done c.from-size.result filled lies put (omega (arith, size, c.min-count.ensures)) (omega (arith, c.from-size.ensures)));
    }
