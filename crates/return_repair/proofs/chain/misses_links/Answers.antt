use Rattle.std.proofs.Common.{true, false, ◌≡◌, ℕ, ◌<◌, sym, refl, subst, ◌∙◌, ap, Bool, List, arith}
use Rattle.std.specs.Prelude.{is_ok, IsOk, IsTrue, ◌&&◌}
use Rattle.return_repair.specs.Chain.{chain, links_of, misses_link, misses_links}
use Rattle.return_repair.proofs.ChainLaws.{chain-end, FirstLink, first_link, height-falls}
use Rattle.return_repair.proofs.chain.misses_links.Goals as goal

missed : (marked : Bool) (memory : List ℕ) (ss link next place : ℕ) → FirstLink marked memory ss link next
    → misses_links place (links_of (chain marked memory ss link)) ≡ (misses_link place link && misses_links place (links_of (chain marked memory ss next)))
missed marked memory ss link next place first = ap (misses_links place) first.links

pub returns-then-not-misses_link : goal.returns-then-not-misses_link
returns-then-not-misses_link c =
    let memory = c.args.machine.now.memory in
    let ss = c.args.machine.now.registers.ss in
    let first = first_link c.args.marked memory ss c.loop-link.link _ (omega arith) c.loop-link.invariant.0 refl c.loop-link.invariant.1 in
    let off : misses_link c.args.place c.loop-link.link ≡ false = cc in
    sym (sym c.loop-link.invariant.2 ∙ missed c.args.marked memory ss c.loop-link.link _ c.args.place first ∙ rw off refl)

pub loop-link-smaller : goal.loop-link-smaller
loop-link-smaller c =
    let memory = c.args.machine.now.memory in
    let ss = c.args.machine.now.registers.ss in
    let first = first_link c.args.marked memory ss c.loop-link.link c.next_link-link.result (omega arith) c.loop-link.invariant.0 c.next_link-link.ensures c.loop-link.invariant.1 in
    height-falls c.loop-link.link c.next_link-link.result (omega arith) c.loop-link.invariant.0 c.next_link-link.type_inv first.on

pub loop-link-preserved : goal.loop-link-preserved
loop-link-preserved c =
    let memory = c.args.machine.now.memory in
    let ss = c.args.machine.now.registers.ss in
    let first = first_link c.args.marked memory ss c.loop-link.link c.next_link-link.result (omega arith) c.loop-link.invariant.0 c.next_link-link.ensures c.loop-link.invariant.1 in
    let on : misses_link c.args.place c.loop-link.link ≡ true = cc in
    let step : misses_links c.args.place (links_of (chain c.args.marked memory ss c.loop-link.link)) ≡ misses_links c.args.place (links_of (chain c.args.marked memory ss c.next_link-link.result)) =
    missed c.args.marked memory ss c.loop-link.link c.next_link-link.result c.args.place first ∙ rw on refl in
    (c.next_link-link.type_inv, first.sound, sym step ∙ c.loop-link.invariant.2)

pub returns : goal.returns
returns c =
    let memory = c.args.machine.now.memory in
    let ss = c.args.machine.now.registers.ss in
    let end : misses_links c.args.place (links_of (chain c.args.marked memory ss c.loop-link.link)) ≡ true = rw (c.loop-link-test.false, chain-end c.args.marked memory ss) refl in
    sym (sym c.loop-link.invariant.2 ∙ end)
