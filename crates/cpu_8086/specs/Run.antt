-- Runs of a process, event by event. An event is one executed instruction with its DOS function.
use Rattle.std.specs.Prelude.{◌≡◌, ℕ, zero, suc}
use Rattle.cpu_8086.specs.declared.machine.Event.{Event}
use Rattle.cpu_8086.specs.State.{State}
use Rattle.cpu_8086.specs.Step.{Steps}
use Rattle.cpu_8086.specs.Process.{Process, Running, after_step}

-- one event takes p, which runs, to q
pub record Goes (p q : Process) : Type 0 where
  pub running : p.status ≡ Running
  pub machine : State
  pub event : Event
  pub steps : Steps p.machine machine event
  pub result : q ≡ after_step p machine event

-- n events take p to q
abbrev pub Runs : ℕ → Process → Process → Type 0
Runs zero p q = p ≡ q
Runs (suc n) p q = (middle : Process) × Goes p middle × Runs n middle q
