use Rattle.std.proofs.Common.{◌≡◌, ℕ, ◌<◌, Bool, List, [], ◌∷◌, sym, refl, subst, ◌∙◌, ap, arith}
use Rattle.frame_links.specs.Links.{Link, place_if, pair_place, pair_places}
use Rattle.return_repair.specs.Chain.{word_at, chain, links_of}
use Rattle.return_repair.specs.Live.{flagged_places}
use Rattle.return_repair.proofs.ChainLaws.{chain-end, first_link, height-falls}
use Rattle.return_repair.proofs.LiveLaws.{flagged-append}
use Rattle.return_repair.proofs.living.flag_links.Goals as goal

pub loop-link-smaller : goal.loop-link-smaller
loop-link-smaller c =
    let memory = c.args.machine.now.memory in
    let ss = c.args.machine.now.registers.ss in
    let first = first_link c.args.marked memory ss c.loop-link.link c.next_link-link.result (omega arith) c.loop-link.invariant.0 c.next_link-link.ensures c.loop-link.invariant.1 in
    height-falls c.loop-link.link c.next_link-link.result (omega arith) c.loop-link.invariant.0 c.next_link-link.type_inv first.on

pub loop-link-preserved : goal.loop-link-preserved
loop-link-preserved c =
    let marked = c.args.marked in
    let memory = c.args.machine.now.memory in
    let ss = c.args.machine.now.registers.ss in
    let table = c.args.table.now in
    let link = c.loop-link.link in
    let next = c.next_link-link.result in
    let first = first_link marked memory ss link next (omega arith) c.loop-link.invariant.0 c.next_link-link.ensures c.loop-link.invariant.1 in
    let others = pair_places (links_of (chain marked memory ss next)) in
    let here = place_if (word_at marked memory ss link).far (pair_place link) in
    let flags = c.flag_if.ensures ∙ ap (λ (far : Bool). flagged_places memory ss table c.loop-link.into (place_if far (pair_place link))) c.is_far-far.ensures in
    let step = ap (λ (links : List Link). flagged_places memory ss table c.loop-link.into (pair_places links)) first.links in (
      c.next_link-link.type_inv,
      first.sound,
      ap (λ (flags : List Bool). flagged_places memory ss table flags others) flags ∙ sym (flagged-append memory ss table c.loop-link.into here others) ∙ sym step ∙ c.loop-link.invariant.2,
    )

pub returns : goal.returns
returns c =
    let memory = c.args.machine.now.memory in
    let ss = c.args.machine.now.registers.ss in
    let nothing : links_of (chain c.args.marked memory ss c.loop-link.link) ≡ [] = rw (c.loop-link-test.false, chain-end c.args.marked memory ss) refl in
    ap (λ (links : List Link). flagged_places memory ss c.args.table.now c.loop-link.into (pair_places links)) (sym nothing) ∙ c.loop-link.invariant.2
