-- Events that have nothing to do with overlays.
use Rattle.std.specs.Prelude.{◌≡◌, ◌≢◌}
use Rattle.cpu_8086.specs.declared.machine.Event.{Event}
use Rattle.cpu_8086.specs.declared.machine.Event.TheVariants.{Service}
use Rattle.cpu_8086.specs.State.{State}
use Rattle.cpu_8086.specs.Process.{Process, Running, after_step}
use Rattle.cpu_8086.specs.Step.{Steps}

-- no trap and no clear
abbrev pub IsOwn : Event → Type 0
IsOwn (Service n) = (n ≢ 63) × (n ≢ 96)
IsOwn event = Unit {0}

-- One event takes a process on by itself, whatever manages its overlays.
pub record GoesAlone (q u : Process) : Type 0 where
  pub running : q.status ≡ Running
  pub machine : State
  pub event : Event
  pub steps : Steps q.machine machine event
  pub own : IsOwn event
  pub result : u ≡ after_step q machine event
