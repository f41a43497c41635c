-- Where a process stands once a stub was called, or a return led to one.
use Rattle.std.specs.Prelude.{◌≡◌, ℕ, ◌==◌, false, if◌then◌else◌, List, [], slice_get, Some}
use Rattle.cpu_8086.specs.Process.{Process}
use Rattle.overlay_file.specs.Stubs.{entry_offset}
use Rattle.overlay_manager.specs.Serves.{table_before}
use Rattle.overlay_manager.specs.overlay_run.Managed.{Managed}
use Rattle.resident_machine.specs.Cells.{Known}
use Rattle.resident_machine.specs.Effect.{blurred, refused}
use Rattle.resident_machine.specs.Program.{Overlay, OverlayCode, Program, stub_owner}
use Rattle.resident_machine.specs.Standing.{StandsFor}
use Rattle.resident_machine.specs.State.{ResidentState, Running}
use Rattle.return_repair.specs.declared.table.Loaded.{Loaded}
use Rattle.return_repair.specs.Follows.{none_met, met_too}
use Rattle.return_repair.specs.Pairs.{saved_at}
use Rattle.overlay_simulation.specs.Matching.{HoldsOverlays}
use Rattle.overlay_simulation.specs.Shown.{at_pair, shown_state}

-- a state seen from the entry of a stub
abbrev pub at_entry : List Loaded → OverlayCode → ℕ → ResidentState → ResidentState
at_entry table o e t = at_pair (record { offset = entry_offset e; segment = o.stub }) (shown_state table none_met t)

-- The process stands at the entry of a stub that was called, for the state as the call led through it: `t` is that state or, where
-- no overlay is installed, the error routine's.
pub record AtEntry (p : Program) (t : ResidentState) (q : Managed) (u : Process) : Type 0 where
  pub through : ResidentState
  pub overlay : ℕ
  pub code : OverlayCode
  pub found : slice_get p.overlays overlay ≡ Some code
  pub entry : ℕ
  pub owner : stub_owner p code.stub ≡ Some overlay
  pub leads : slice_get code.entries entry ≡ Some through.registers.ip
  pub cs : through.cs ≡ Overlay overlay
  pub running : through.status ≡ Running
  pub half : through.half ≡ false
  pub flag : ℕ
  pub known : through.cells p.installed ≡ Known flag
  pub left : t ≡ blurred (if flag == 0 then refused p through else through)
  pub stands : StandsFor p (at_entry (table_before q.manager) code entry (blurred through)) u
  pub overlays : HoldsOverlays p q.manager none_met t.cells t.records u.machine.memory
  pub same_flag : through.cells p.installed ≡ t.cells p.installed
  pub unset : t.cells p.installed ≡ Known 0 → q.manager.ring.seats ≡ []

-- a state seen from the begin of a stub, whose topmost return was taken
abbrev pub at_begin : List Loaded → OverlayCode → ResidentState → ResidentState
at_begin table o t = at_pair (record { offset = 0; segment = o.stub }) (shown_state table (met_too o.stub none_met) t)

-- The process stands at the begin of the stub of an overlay that is out, to which a return led, for the state that returned into the
-- overlay: the stub saves the offset where that goes on.
pub record AtBegin (p : Program) (t : ResidentState) (q : Managed) (u : Process) : Type 0 where
  pub overlay : ℕ
  pub code : OverlayCode
  pub found : slice_get p.overlays overlay ≡ Some code
  pub cs : t.cs ≡ Overlay overlay
  pub running : t.status ≡ Running
  pub half : t.half ≡ false
  pub stands : StandsFor p (at_begin (table_before q.manager) code t) u
  pub saved : saved_at u.machine.memory code.stub ≡ t.registers.ip
  pub overlays : HoldsOverlays p q.manager (met_too code.stub none_met) t.cells t.records u.machine.memory
  pub unset : t.cells p.installed ≡ Known 0 → q.manager.ring.seats ≡ []
