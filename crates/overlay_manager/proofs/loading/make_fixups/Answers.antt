use Rattle.std.proofs.Common.{◌+◌, ◌-◌, ◌*◌, List, ℕ, sym, ap, ◌∙◌}
use Rattle.cpu_8086.specs.State.{State}
use Rattle.mz_file.specs.Words.{words_at}
use Rattle.overlay_manager.specs.Code.{with_fixups}
use Rattle.overlay_manager.proofs.PartLaws.{words_at-step}
use Rattle.overlay_manager.proofs.loading.make_fixups.Goals as goal

pub loop-k-preserved : goal.loop-k-preserved
loop-k-preserved c =
    let size = c.args.size in
    let segment = c.args.segment in
    let bytes = c.args.bytes.now in
    let k = c.loop-k.k in
    let rest : List ℕ = words_at bytes (2 * (k + 1)) (c.args.count - (k + 1)) in
    let step = words_at-step bytes k c.args.count c.loop-k-test.true in
    ap (λ (s : State). let t : State = record s { memory = with_fixups size segment s.memory rest } in t) c.make_fixup.ensures
    ∙ ap (λ (words : List ℕ). let t : State = record c.loop-k.machine { memory = with_fixups size segment c.loop-k.machine.memory words } in t) (sym step)
    ∙ c.loop-k.invariant
