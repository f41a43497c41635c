use Rattle.std.proofs.Common.{ℕ, ◌∙◌, drop, length-take, arith, IfSome}
use Rattle.tp_outside.specs.Folder.{bytes_of, IsPartAt}
use Rattle.tp_outside.proofs.Prefix.{front-next}
use Rattle.tp_outside.proofs.reading.read_prefix.Goals as goal

-- the bytes read are appended to the front that was read
pub loop-at-preserved : goal.loop-at-preserved
loop-at-preserved g c =
    let before = c.loop-at.invariant in
    let ensured = c.in_ok-count.ensures in
    let told : IfSome (g.F.Files.folder c.loop-at.files) (λ held. IsPartAt (bytes_of held c.args.name.now) c.loop-at.at c.in_ok-count.count c.read_at.new.into) = c.in_ok-count.ensures.told in (
      omega (arith, ensured.bound, c.read_at.auto.into, c.min-room.ensures, length-take {A = ℕ}),
      ensured.unchanged ∙ before.1,
      omega (arith, before.2, ensured.counted),
      front-next _ _ c.args.name.now c.loop-at.bytes.items _ c.read_at.new.into (drop c.min-room.result c.loop-at.chunk) c.loop-at.at c.in_ok-count.count before.1 ensured.bound before.3 told c.in_ok-extend_from_slice.ensures.items,
    )
