use Rattle.std.proofs.Common.{◌+◌, ◌-◌, ◌++◌, ◌∙◌, take, length, length-take, length-append, IfSome, arith}
use borrow.Rule.Slice.PartMut.{post_of}
use Rattle.tp_outside.specs.Folder.{bytes_of, IsPartAt}
use Rattle.overlay_manager.proofs.PartLaws.{filled-next}
use Rattle.overlay_manager.proofs.filling.fill.Goals as goal

-- what was read stands behind what was there
pub loop-done-preserved : goal.loop-done-preserved
loop-done-preserved g c =
    let before = c.loop-done.invariant in
    let ensured = c.in_ok-count.ensures in
    let into = c.loop-done.into in
    let part = c.read_at.new.into in
    let rest = post_of c.loop-done.done (length into - c.loop-done.done) into in
    let told : IfSome (g.F.Files.folder c.loop-done.files) (λ held. IsPartAt (bytes_of held c.args.name.now) (c.args.place + c.loop-done.done) c.in_ok-count.count part) = ensured.told in (
      omega (arith, before.0, ensured.bound, length-take c.loop-done.done into, length-append (take c.loop-done.done into) (part ++ rest), length-append part rest),
      ensured.unchanged ∙ before.1,
      omega (arith, before.2, ensured.counted),
      filled-next _ _ c.args.name.now into part rest c.args.place c.loop-done.done c.in_ok-count.count before.1 before.0 ensured.bound before.3 told,
    )
