use Rattle.std.proofs.Common.{◌≡◌, ◌-◌, ◌<◌, ℕ}
use Rattle.std.specs.Prelude.{IsOk}
use Rattle.return_repair.specs.Chain.{chain, chain_of, links_of, misses_links}
use Rattle.return_repair.proofs.ChainLaws.{height}
use Rattle.return_repair.proofs.chain.misses_links.Given as goal

-- what is left of the links decides
abbrev pub invariant-loop-link : goal.invariant-loop-link
invariant-loop-link l =
    (l.link < 65536) × IsOk (chain l.marked l.machine.memory l.machine.registers.ss l.link)
    × (misses_links l.place (links_of (chain l.marked l.machine.memory l.machine.registers.ss l.link)) ≡ misses_links l.place (links_of (chain_of l.marked l.machine)))

abbrev pub decreases-loop-link : goal.decreases-loop-link
decreases-loop-link l = height l.link
