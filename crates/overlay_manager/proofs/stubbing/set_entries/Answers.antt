use Rattle.std.proofs.Common.{◌≡◌, ℕ, suc, ◌+◌, ◌-◌, ◌%◌, sym, ap, ◌∙◌, arith}
use Rattle.cpu_8086.specs.State.{State}
use Rattle.overlay_manager.specs.Stubbing.{with_entries}
use Rattle.overlay_manager.proofs.stubbing.set_entries.Goals as goal

pub loop-preserved : goal.loop-preserved
loop-preserved c =
    let was = c.args.was in
    let now = c.args.now in
    let stub = c.args.stub in
    let left : c.args.entries - c.loop.counter ≡ suc (c.args.entries - (c.loop.counter + 1)) = omega arith in
    ap (λ (s : State). let t : State = record s { memory = with_entries was now stub s.memory ((c.loop.at + 5) % 65536) (c.args.entries - (c.loop.counter + 1)) } in t) c.set_entry.ensures
    ∙ ap (λ (n : ℕ). let t : State = record c.loop.machine { memory = with_entries was now stub c.loop.machine.memory c.loop.at n } in t) (sym left)
    ∙ c.loop.invariant
