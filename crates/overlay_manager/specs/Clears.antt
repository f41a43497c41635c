-- Sending all overlays out, in the words of its subject, in a state in which live returns, stubs and the buffer lie apart.
use Rattle.std.specs.Prelude.{◌≡◌, ℕ, true, slice_index, []}
use Rattle.cpu_8086.specs.State.{State}
use Rattle.return_repair.specs.Follows.{Follow}
use Rattle.overlay_manager.specs.Manager.{Manager, sent_count, table_by}
use Rattle.overlay_manager.specs.Orderly.{IsOffStubs, IsOffPairs, places_of}
use Rattle.overlay_manager.specs.Reads.{StubsRead}
use Rattle.overlay_manager.specs.Serves.{table_before}

-- Live pairs, the pending one first, follow to the table in which all overlays are out, and each stub reads as that table
-- says: its entries trap, and none is loaded next. Registers and flags are as they were, and so is each byte off the live
-- pairs and the stubs.
pub record Clears (m : Manager) (s after : State) : Type 0 where
  pub pairs : Follow s.memory after.memory s.registers.ss (places_of m.marked s true) (table_before m) (table_by m []) (sent_count m s)
  pub stubs : StubsRead m s.memory after.memory []
  pub machine : after ≡ record s { memory = after.memory }
  pub others : (at : ℕ) → IsOffPairs s.registers.ss (places_of m.marked s true) at → IsOffStubs s.memory m.stubs at → slice_index after.memory at ≡ slice_index s.memory at
