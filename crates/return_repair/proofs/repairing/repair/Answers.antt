use Rattle.std.proofs.Common.{true, ◌≡◌, ℕ, ◌+◌, List, Ok, Option, None, cond, refl, sym, ap, subst, ◌∙◌}
use Rattle.std.specs.Prelude.{is_ok, IsOk, IsTrue, ◌&&◌, ◌||◌, not, nat_le}
use Rattle.cpu_8086.specs.State.{State}
use Rattle.return_repair.specs.Chain.{chain_of, links_of, live_places, are_spaced, misses_links, are_clear}
use Rattle.return_repair.specs.Repair.{Work, repaired_at, repaired_memory, repaired_count, with_saved}
use Rattle.return_repair.specs.Follows.{OnlyPairsDiffer}
use Rattle.return_repair.specs.Topmosts.{by_stub}
use Rattle.return_repair.proofs.FollowLaws.{follow_state}
use Rattle.return_repair.proofs.LinkLaws.{both}
use Rattle.return_repair.proofs.SafeLaws.{safe}
use Rattle.return_repair.proofs.WholeLaws.{chain_after, InTurn, in_turn}
use Rattle.return_repair.proofs.repairing.repair.Goals as goal

pub repair_links-others-requires-clause-sound : goal.repair_links-others-requires-clause-sound
repair_links-others-requires-clause-sound c =
    let clear : IsTrue (are_clear c.args.machine.now.registers c.args.pending (links_of (chain_of c.args.marked c.args.machine.now))) = cc in
    ap is_ok (chain_after c.args.marked c.args.machine.now c.repair_pending-first.new.machine c.args.pending c.args.old.now c.args.new.now (by_stub c.none-topmost.result.offsets) c.check_chain.ensures.small c.in_ok-check_chain.ensures.sound clear c.repair_pending-first.ensures.memory)

pub repair_links-others-requires-clause-spaced : goal.repair_links-others-requires-clause-spaced
repair_links-others-requires-clause-spaced c =
    let s = c.args.machine.now in
    let clear : IsTrue (are_clear s.registers c.args.pending (links_of (chain_of c.args.marked s))) = cc in
    let same = chain_after c.args.marked s c.repair_pending-first.new.machine c.args.pending c.args.old.now c.args.new.now (by_stub c.none-topmost.result.offsets) c.check_chain.ensures.small c.in_ok-check_chain.ensures.sound clear c.repair_pending-first.ensures.memory in
    let spaced = both (are_spaced (links_of (chain_of c.args.marked s))) (not c.args.pending || (nat_le (s.registers.sp + 4) 65536 && misses_links s.registers.sp (links_of (chain_of c.args.marked s)))) clear in
    ap (λ r. are_spaced (links_of r)) same ∙ spaced.0

pub returns-clause-memory : goal.returns-clause-memory
returns-clause-memory c =
    let s = c.args.machine.now in
    let clear : IsTrue (are_clear s.registers c.args.pending (links_of (chain_of c.args.marked s))) = cc in
    let chain_is = chain_after c.args.marked s c.repair_pending-first.new.machine c.args.pending c.args.old.now c.args.new.now (by_stub c.none-topmost.result.offsets) c.check_chain.ensures.small c.in_ok-check_chain.ensures.sound clear c.repair_pending-first.ensures.memory in
    let whole = in_turn c.args.marked s c.repair_pending-first.new.machine c.repair_links-others.new.machine c.args.pending c.args.old.now c.args.new.now
    (by_stub c.none-topmost.result.offsets) (by_stub c.repair_pending-first.new.topmost.offsets) (by_stub c.repair_links-others.new.topmost.offsets) c.repair_pending-first.result c.repair_links-others.result (record {
      none = λ i stub. c.none-topmost.ensures stub i;
      first_is = c.repair_pending-first.ensures.memory;
      first_topmost = λ i stub. c.repair_pending-first.ensures.topmost stub i;
      first_changed = c.repair_pending-first.ensures.changed;
      second_is = c.repair_links-others.ensures.memory;
      second_topmost = λ i stub. c.repair_links-others.ensures.topmost stub i;
      second_changed = c.repair_links-others.ensures.changed;
      chain_is = chain_is;
    }) in
    let links = links_of (chain_of c.args.marked s) in
    let saved = ap (λ (w : Work). with_saved w.topmost c.args.new.now w.memory) whole in
    let chosen : repaired_memory s c.args.pending c.args.old.now c.args.new.now links ≡ (let w = repaired_at s c.args.pending c.args.old.now c.args.new.now links in with_saved w.topmost c.args.new.now w.memory) = rw clear refl in
    let second = c.repair_links-others.new.machine in
    let second_is : second ≡ record s { memory = second.memory } =
    c.repair_links-others.ensures.memory
    ∙ ap (λ memory. let t : State = record c.repair_pending-first.new.machine { memory = memory } in t) (sym (ap (λ (t : State). t.memory) c.repair_links-others.ensures.memory))
    ∙ ap (λ (t : State). let u : State = record t { memory = second.memory } in u) c.repair_pending-first.ensures.memory in
    let after : List ℕ = with_saved (by_stub c.repair_links-others.new.topmost.offsets) c.args.new.now second.memory in
    c.save_topmost.ensures ∙ ap (λ (t : State). let u : State = record t { memory = after } in u) second_is ∙ ap (λ memory. let t : State = record s { memory = memory } in t) (saved ∙ sym chosen)

pub returns-clause-changed : goal.returns-clause-changed
returns-clause-changed c =
    let s = c.args.machine.now in
    let clear : IsTrue (are_clear s.registers c.args.pending (links_of (chain_of c.args.marked s))) = cc in
    let chain_is = chain_after c.args.marked s c.repair_pending-first.new.machine c.args.pending c.args.old.now c.args.new.now (by_stub c.none-topmost.result.offsets) c.check_chain.ensures.small c.in_ok-check_chain.ensures.sound clear c.repair_pending-first.ensures.memory in
    let whole = in_turn c.args.marked s c.repair_pending-first.new.machine c.repair_links-others.new.machine c.args.pending c.args.old.now c.args.new.now
    (by_stub c.none-topmost.result.offsets) (by_stub c.repair_pending-first.new.topmost.offsets) (by_stub c.repair_links-others.new.topmost.offsets) c.repair_pending-first.result c.repair_links-others.result (record {
      none = λ i stub. c.none-topmost.ensures stub i;
      first_is = c.repair_pending-first.ensures.memory;
      first_topmost = λ i stub. c.repair_pending-first.ensures.topmost stub i;
      first_changed = c.repair_pending-first.ensures.changed;
      second_is = c.repair_links-others.ensures.memory;
      second_topmost = λ i stub. c.repair_links-others.ensures.topmost stub i;
      second_changed = c.repair_links-others.ensures.changed;
      chain_is = chain_is;
    }) in
    let links = links_of (chain_of c.args.marked s) in
    let chosen : repaired_count s c.args.pending c.args.old.now c.args.new.now links ≡ (repaired_at s c.args.pending c.args.old.now c.args.new.now links).changed = rw clear refl in
    ap (λ (w : Work). w.changed) whole ∙ sym chosen

pub returns-clause-follow : goal.returns-clause-follow
returns-clause-follow c =
    follow_state c.args.marked c.args.machine.now c.save_topmost.new.machine.memory c.args.pending c.args.old.now c.args.new.now (c.repair_pending-first.result + c.repair_links-others.result) c.requires
    (ap (λ (t : State). t.memory) (returns-clause-memory c)) (returns-clause-changed c)

pub returns-clause-safe : goal.returns-clause-safe
returns-clause-safe c =
    let s = c.args.machine.now in
    let P : List ℕ → Type 0 = λ after. OnlyPairsDiffer s.memory after s.registers.ss (live_places s.registers c.args.pending (links_of (chain_of c.args.marked s))) c.args.new.now in
    subst P (sym (ap (λ (t : State). t.memory) (returns-clause-memory c))) (safe c.args.marked s c.args.pending c.args.old.now c.args.new.now)
