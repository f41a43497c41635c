-- When a manager is that of a program's overlays.
use Rattle.std.specs.Prelude.{◌≡◌, map}
use Rattle.cpu_8086.specs.Memory.{address}
use Rattle.overlay_manager.specs.Manager.{Manager}
use Rattle.resident_machine.specs.Program.{OverlayCode, Program}

-- It knows the stubs of the program's overlays, in order, and the places that the program names.
pub record Manages (p : Program) (m : Manager) : Type 0 where
  pub stubs : m.stubs ≡ map (λ (o : OverlayCode). o.stub) p.overlays
  pub installed : address m.installed.segment m.installed.offset ≡ p.installed
  pub error_routine : m.error_routine ≡ p.error_routine
  pub marked : m.marked ≡ p.marked
