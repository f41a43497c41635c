-- How stubs read after a service: as the new table says, and their entries lead where they led.
use Rattle.std.specs.Prelude.{◌≡◌, ℕ, ◌<◌, ◌≤◌, List, length}
use Rattle.cpu_8086.specs.Memory.{load_word}
use Rattle.overlay_file.specs.Stubs.{IsStub, entry_offset}
use Rattle.overlay_ring.specs.declared.seat.Seat.{Seat}
use Rattle.return_repair.specs.Follows.{overlay_at}
use Rattle.overlay_manager.specs.Manager.{Manager, next_stub, table_by}
use Rattle.overlay_manager.specs.Stubbing.{routine_at}

-- A stub, before and after: it is one, with this load segment and this next stub; the other fields but the saved offset are
-- as they were, and each entry leads to the routine that it led to.
pub record StubReads (memory after : List ℕ) (stub was now next : ℕ) : Type 0 where
  pub stub_is : IsStub after stub
  pub load : load_word after stub 14 ≡ now
  pub next_is : load_word after stub 16 ≡ next
  pub fields : (offset : ℕ) → 4 ≤ offset → offset ≤ 12 → load_word after stub offset ≡ load_word memory stub offset
  pub routines : (e : ℕ) → e < load_word memory stub 12 → routine_at after stub now (entry_offset e) ≡ routine_at memory stub was (entry_offset e)

-- each stub that was one reads so, once the seats became others
abbrev pub StubsRead : Manager → List ℕ → List ℕ → List Seat → Type 0
StubsRead m memory after seats =
    (v : ℕ) → v < length m.stubs → IsStub memory (overlay_at (table_by m seats) v).stub
    → StubReads memory after (overlay_at (table_by m seats) v).stub (overlay_at (table_by m m.ring.seats) v).load (overlay_at (table_by m seats) v).load (next_stub m.stubs seats v)
