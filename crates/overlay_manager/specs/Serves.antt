-- A service in the words of its subject, in a state in which live returns, stubs and the buffer lie apart.
use Rattle.std.specs.Prelude.{◌≡◌, ◌≢◌, ℕ, ◌<◌, slice_get, slice_index, List, Some}
use Rattle.cpu_8086.specs.State.{State}
use Rattle.overlay_file.specs.declared.overlay.OvrEntry.{OvrEntry}
use Rattle.return_repair.specs.declared.table.Loaded.{Loaded}
use Rattle.return_repair.specs.Pairs.{saved_at}
use Rattle.return_repair.specs.Follows.{Follow, overlay_at}
use Rattle.overlay_manager.specs.declared.traps.Trap.{Trap}
use Rattle.overlay_manager.specs.Code.{Stands, code_of}
use Rattle.overlay_manager.specs.Loading.{IsWhole, IsOffLoads}
use Rattle.overlay_manager.specs.Manager.{Manager, load_segment, table_by}
use Rattle.overlay_manager.specs.Orderly.{IsOffStubs, IsOffPairs, places_of}
use Rattle.overlay_manager.specs.Service.{followed_count, loaded_state, seats_after}
use Rattle.overlay_manager.specs.Traps.{resumed}

-- the tables before a service and after it, as the seats of the ring make them
abbrev pub table_before : Manager → List Loaded
table_before m = table_by m m.ring.seats

abbrev pub table_after : Manager → Trap → State → List Loaded
table_after m trap s = table_by m (seats_after m trap s)

-- how many live returns change
abbrev pub changed_count : Manager → List ℕ → Trap → State → ℕ
changed_count m bytes trap s =
    followed_count m.marked (loaded_state bytes m.entries (table_before m) (table_after m trap s) s) trap.call (table_before m) (table_after m trap s)

-- Live pairs follow from the one table to the other, a call's pending pair too. Control goes on at the entry or at the
-- saved offset, and registers and flags are as they were. Off the code that was loaded, the live pairs and the stubs no byte
-- differs.
pub record Serves (m : Manager) (bytes : List ℕ) (trap : Trap) (s after : State) : Type 0 where
  pub pairs : Follow s.memory after.memory s.registers.ss (places_of m.marked s trap.call) (table_before m) (table_after m trap s) (changed_count m bytes trap s)
  pub control : after ≡ resumed (load_segment m.ring.room (seats_after m trap s) trap.overlay) (saved_at s.memory s.cs) trap (record s { memory = after.memory })
  pub others : (at : ℕ) → IsOffLoads m.entries (table_before m) (table_after m trap s) at → IsOffPairs s.registers.ss (places_of m.marked s trap.call) at → IsOffStubs s.memory m.stubs at
      → slice_index after.memory at ≡ slice_index s.memory at

-- by a table the code of each overlay that is loaded stands at its place, fixups made
abbrev pub CodeStands : List ℕ → List OvrEntry → List Loaded → List ℕ → Type 0
CodeStands bytes entries table memory =
    (v : ℕ) (entry : OvrEntry) → slice_get entries v ≡ Some entry → (overlay_at table v).load ≢ 0 → Stands memory (overlay_at table v).load (code_of bytes entry)

-- each overlay has code, whose size is a word
abbrev pub HaveSizes : List OvrEntry → Type 0
HaveSizes entries = (v : ℕ) (entry : OvrEntry) → slice_get entries v ≡ Some entry → (0 < entry.size) × (entry.size < 65536)

-- The file has each overlay whole, and the code of those that are loaded stands.
pub record IsStanding (m : Manager) (bytes memory : List ℕ) : Type 0 where
  pub sizes : HaveSizes m.entries
  pub whole : (v : ℕ) (entry : OvrEntry) → slice_get m.entries v ≡ Some entry → IsWhole bytes entry
  pub code : CodeStands bytes m.entries (table_before m) memory
