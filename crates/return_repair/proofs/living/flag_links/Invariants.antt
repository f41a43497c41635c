use Rattle.std.proofs.Common.{◌≡◌, ◌<◌, ℕ, length}
use Rattle.std.specs.Prelude.{IsOk}
use Rattle.frame_links.specs.Links.{pair_places}
use Rattle.return_repair.specs.Chain.{chain, chain_of, links_of}
use Rattle.return_repair.specs.Live.{flagged_places}
use Rattle.return_repair.proofs.ChainLaws.{height}
use Rattle.return_repair.proofs.living.flag_links.Given as goal

-- what is flagged and what is left are all
abbrev pub invariant-loop-link : goal.invariant-loop-link
invariant-loop-link l =
    (l.link < 65536) × IsOk (chain l.marked l.machine.memory l.machine.registers.ss l.link)
    × (flagged_places l.machine.memory l.machine.registers.ss l.table l.into (pair_places (links_of (chain l.marked l.machine.memory l.machine.registers.ss l.link)))
    ≡ flagged_places l.machine.memory l.machine.registers.ss l.table l.initial.into (pair_places (links_of (chain_of l.marked l.machine))))

abbrev pub decreases-loop-link : goal.decreases-loop-link
decreases-loop-link l = height l.link
