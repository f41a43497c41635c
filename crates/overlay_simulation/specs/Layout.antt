-- How stubs and the buffer lie in memory, and what a machine holds of a resident state whose return pairs a service looks for.
use Rattle.std.specs.Prelude.{◌≡◌, ◌≢◌, ◌⊎◌, ℕ, ◌<◌, Bool, IsTrue, length, slice_index, slice_get, Some}
use Rattle.cpu_8086.specs.Memory.{address}
use Rattle.cpu_8086.specs.State.{State}
use Rattle.overlay_manager.specs.Manager.{Manager}
use Rattle.overlay_manager.specs.Orderly.{IsOffBuffer}
use Rattle.overlay_manager.specs.Serves.{table_before}
use Rattle.resident_machine.specs.Cells.{Known}
use Rattle.resident_machine.specs.Program.{OverlayCode, Program}
use Rattle.resident_machine.specs.State.{ResidentState}
use Rattle.resident_machine.specs.Whole.{IsWhole}
use Rattle.overlay_simulation.specs.Managing.{Manages}
use Rattle.overlay_simulation.specs.Matching.{size_of, HoldsOverlays, TellsApart}

-- No two stubs share a byte, none has one in the buffer, and each byte of the buffer is kept.
pub record LieApart (p : Program) (m : Manager) (kept : ℕ → Bool) : Type 0 where
  pub stubs : (v w : ℕ) (a b : OverlayCode) → slice_get p.overlays v ≡ Some a → slice_get p.overlays w ≡ Some b → v < w → (i j : ℕ) → i < size_of a → j < size_of b → address b.stub j ≢ address a.stub i
  pub off_buffer : (v : ℕ) (o : OverlayCode) → slice_get p.overlays v ≡ Some o → (k : ℕ) → k < size_of o → IsOffBuffer m.ring.room (address o.stub k)
  pub buffer : (at : ℕ) → IsOffBuffer m.ring.room at ⊎ IsTrue (kept at)

-- The machine has the state's stack, and a megabyte that holds what is known.
pub record HoldsStack (t : ResidentState) (s : State) : Type 0 where
  pub ss : s.registers.ss ≡ t.registers.ss
  pub sp : s.registers.sp ≡ t.registers.sp
  pub bp : s.registers.bp ≡ t.registers.bp
  pub size : length s.memory ≡ 1048576
  pub known : (place value : ℕ) → t.cells place ≡ Known value → slice_index s.memory place ≡ value

-- All that a service looks at: the resident state is whole, and the machine has its stack and the overlays as the manager of the
-- program's overlays has them.
pub record IsReady (p : Program) (m : Manager) (met : ℕ → Bool) (kept : ℕ → Bool) (t : ResidentState) (s : State) : Type 0 where
  pub manages : Manages p m
  pub told : TellsApart p (table_before m)
  pub apart : LieApart p m kept
  pub whole : IsWhole p kept t
  pub stack : HoldsStack t s
  pub overlays : HoldsOverlays p m met t.cells t.records s.memory
