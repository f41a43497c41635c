use Rattle.std.proofs.Common.{◌≡◌, ℕ, ◌+◌, ◌<◌, ◌≤◌, Bool, List, Option}
use Rattle.std.specs.Prelude.{IsOk, IsTrue}
use Rattle.cpu_8086.specs.State.{State}
use Rattle.frame_links.specs.Links.{Link, pair_places}
use Rattle.return_repair.specs.declared.table.Loaded.{Loaded}
use Rattle.return_repair.specs.Chain.{chain, chain_of, links_of, are_spaced}
use Rattle.return_repair.specs.Repair.{Work, work, repaired_places}
use Rattle.return_repair.specs.Topmosts.{by_stub}
use Rattle.return_repair.proofs.ChainLaws.{height}
use Rattle.return_repair.proofs.LinkLaws.{Kept}
use Rattle.return_repair.proofs.repairing.repair_links.Given as goal

abbrev pub rest_of : Bool → State → ℕ → List Link
rest_of marked start link = links_of (chain marked start.memory start.registers.ss link)

-- so far the pairs above the links before this one are repaired
pub record IsUnderWay (marked : Bool) (old new : List Loaded) (start : State) (begun : ℕ → Option ℕ) (now : State) (topmost : ℕ → Option ℕ) (changed link : ℕ) : Type 0 where
  pub small : link < 65536
  pub same : now ≡ record start { memory = now.memory }
  pub sound : IsOk (chain marked start.memory start.registers.ss link)
  pub spaced : IsTrue (are_spaced (rest_of marked start link))
  pub kept : Kept now.memory start.memory start.registers.ss (rest_of marked start link)
  pub done : repaired_places start.registers.ss old new (record { memory = now.memory; topmost = topmost; changed = changed }) (pair_places (rest_of marked start link))
      ≡ repaired_places start.registers.ss old new (work start.memory begun) (pair_places (links_of (chain_of marked start)))
  pub few : changed + height link ≤ 65535

abbrev pub invariant-loop-link : goal.invariant-loop-link
invariant-loop-link l = IsUnderWay l.marked l.old l.new l.fn.machine (by_stub l.fn.topmost.offsets) l.machine (by_stub l.topmost.offsets) l.changed l.link

abbrev pub decreases-loop-link : goal.decreases-loop-link
decreases-loop-link l = height l.link
