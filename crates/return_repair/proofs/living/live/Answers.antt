use Rattle.std.proofs.Common.{◌≡◌, ◌++◌, Bool, false, List, get_or, map, sym, refl, ◌∙◌, ap}
use Rattle.std.specs.Prelude.{◌||◌}
use Rattle.std.specs.List.{list_any}
use Rattle.frame_links.specs.Links.{pair_places}
use Rattle.return_repair.specs.Chain.{chain_of, links_of, pending_places}
use Rattle.return_repair.specs.Live.{denotes, flagged_places}
use Rattle.return_repair.proofs.LiveLaws.{flagged-places, flagged-append}
use Rattle.return_repair.proofs.living.live.Goals as goal

pub returns-clause-live : goal.returns-clause-live
returns-clause-live c = λ v.
    let s = c.args.machine.now in
    let table = c.args.table.now in
    let first = pending_places s.registers c.args.pending in
    let others = pair_places (links_of (chain_of c.args.marked s)) in
    let all = flagged-append s.memory s.registers.ss table c.clear.new.into first others in
    let flags = c.flag_links.ensures ∙ ap (λ (flags : List Bool). flagged_places s.memory s.registers.ss table flags others) c.flag_pending.ensures ∙ sym all in
    ap (λ (flags : List Bool). get_or flags v false) flags
    ∙ flagged-places s.memory s.registers.ss table c.clear.new.into (first ++ others) v (c.clear.auto.into ∙ c.requires)
    ∙ ap (λ b. b || list_any (denotes s.memory s.registers.ss table v) (first ++ others)) (c.clear.ensures v)
