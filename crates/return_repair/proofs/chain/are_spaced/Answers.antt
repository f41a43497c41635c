use Rattle.std.proofs.Common.{true, false, ◌≡◌, ℕ, ◌+◌, ◌<◌, ◌≤◌, sym, refl, subst, ◌∙◌, ap, Bool, List, arith}
use Rattle.std.specs.Prelude.{is_ok, IsOk, IsTrue, ◌&&◌, nat_le}
use Rattle.std.proofs.lemmas.Bool.Decides.{nat_tests}
use Rattle.frame_links.specs.Links.{room_of}
use Rattle.return_repair.specs.Chain.{chain, links_of, room_end, are_spaced, word_at}
use Rattle.return_repair.proofs.ChainLaws.{chain-end, FirstLink, first_link, height-falls, spaced-step}
use Rattle.return_repair.proofs.chain.are_spaced.Goals as goal

within : (a b : ℕ) → a ≤ b → nat_le a b ≡ true
within a b le = grind (arith, nat_tests)

beyond : (a b : ℕ) → b < a → nat_le a b ≡ false
beyond a b lt = grind (arith, nat_tests)

pub returns-then-from-room : goal.returns-then-from-room
returns-then-from-room c =
    let marked = c.args.marked in
    let memory = c.args.machine.now.memory in
    let ss = c.args.machine.now.registers.ss in
    let link = c.loop-link.link in
    let next = c.next_link-next.result in
    let first = first_link marked memory ss link next (omega arith) c.loop-link.invariant.0 c.next_link-next.ensures c.loop-link.invariant.1 in
    let room : c.room_of-room.result ≡ room_of (word_at marked memory ss link).far = c.room_of-room.ensures ∙ ap room_of c.is_far.ensures in
    let past : c.room_end.result < link + c.room_of-room.result = rw (← c.from.ensures) c.if-from-room.true in
    let short : room_end next < link + room_of (word_at marked memory ss link).far = subst (λ (end : ℕ). end < link + room_of (word_at marked memory ss link).far) c.room_end.ensures (subst (λ (room : ℕ). c.room_end.result < link + room) room past) in
    let off : nat_le (link + room_of (word_at marked memory ss link).far) (room_end next) ≡ false = beyond (link + room_of (word_at marked memory ss link).far) (room_end next) short in
    sym (sym c.loop-link.invariant.2 ∙ spaced-step marked memory ss link next c.next_link-next.type_inv first ∙ rw off refl)

pub loop-link-preserved : goal.loop-link-preserved
loop-link-preserved c =
    let marked = c.args.marked in
    let memory = c.args.machine.now.memory in
    let ss = c.args.machine.now.registers.ss in
    let link = c.loop-link.link in
    let next = c.next_link-next.result in
    let first = first_link marked memory ss link next (omega arith) c.loop-link.invariant.0 c.next_link-next.ensures c.loop-link.invariant.1 in
    let room : c.room_of-room.result ≡ room_of (word_at marked memory ss link).far = c.room_of-room.ensures ∙ ap room_of c.is_far.ensures in
    let there : link + c.room_of-room.result ≤ c.room_end.result = rw (← c.from.ensures) c.if-from-room.false in
    let enough : link + room_of (word_at marked memory ss link).far ≤ room_end next = subst (λ (end : ℕ). link + room_of (word_at marked memory ss link).far ≤ end) c.room_end.ensures (subst (λ (room : ℕ). link + room ≤ c.room_end.result) room there) in
    let on : nat_le (link + room_of (word_at marked memory ss link).far) (room_end next) ≡ true = within (link + room_of (word_at marked memory ss link).far) (room_end next) enough in
    let step : are_spaced (links_of (chain marked memory ss link)) ≡ are_spaced (links_of (chain marked memory ss next)) =
    spaced-step marked memory ss link next c.next_link-next.type_inv first ∙ rw on refl in
    (c.next_link-next.type_inv, first.sound, sym step ∙ c.loop-link.invariant.2)

pub returns : goal.returns
returns c =
    let memory = c.args.machine.now.memory in
    let ss = c.args.machine.now.registers.ss in
    let end : are_spaced (links_of (chain c.args.marked memory ss c.loop-link.link)) ≡ true = rw (c.loop-link-test.false, chain-end c.args.marked memory ss) refl in
    sym (sym c.loop-link.invariant.2 ∙ end)
