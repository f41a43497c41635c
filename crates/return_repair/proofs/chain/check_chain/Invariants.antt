use Rattle.std.proofs.Common.{◌≡◌, ◌-◌, ◌<◌, ℕ, Bool, List, Result, Ok, Err}
use Rattle.std.specs.Prelude.{IsOk}
use Rattle.frame_links.specs.Links.{Link}
use Rattle.return_repair.specs.Chain.{chain, chain_of}
use Rattle.return_repair.proofs.ChainLaws.{height}
use Rattle.return_repair.proofs.chain.check_chain.Given as goal

-- what is found from this link on is found from the first
pub record Continues (marked : Bool) (memory : List ℕ) (ss link : ℕ) (whole : Result (List Link) ℕ) : Type 0 where
  pub small : link < 65536
  pub sound : IsOk (chain marked memory ss link) → IsOk whole
  pub bad : (place : ℕ) → chain marked memory ss link ≡ Err place → whole ≡ Err place

abbrev pub invariant-loop-link : goal.invariant-loop-link
invariant-loop-link l = Continues l.marked l.machine.memory l.machine.registers.ss l.link (chain_of l.marked l.machine)

abbrev pub decreases-loop-link : goal.decreases-loop-link
decreases-loop-link l = height l.link
