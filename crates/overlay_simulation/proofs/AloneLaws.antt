-- An event of a process alone is one of the program whose overlays are managed.
use Rattle.std.proofs.Common.{◌≡◌, ℕ, List, ap, ne_eqb}
use Rattle.cpu_8086.specs.declared.machine.Event.{Event}
use Rattle.cpu_8086.specs.declared.machine.Event.TheVariants as events
use Rattle.cpu_8086.specs.Process.{Process, after_step}
use Rattle.cpu_8086.specs.State.{State}
use Rattle.overlay_manager.specs.overlay_run.Managed.{Managed, IsAfter, ManagedGoes}
use Rattle.overlay_simulation.specs.Plain.{IsOwn, GoesAlone}

after_alone : (bytes : List ℕ) (q : Managed) (machine : State) (event : Event) (u : Process) → IsOwn event → u ≡ after_step q.process machine event → IsAfter bytes q machine event (record q { process = u })
after_alone bytes q machine events.Ran u own e = ap (λ (z : Process). record q { process = z }) e
after_alone bytes q machine (events.Service n) u own e = rw (ne_eqb n 63 own.0, ne_eqb n 96 own.1) (ap (λ (z : Process). record q { process = z }) e)
after_alone bytes q machine events.Divide u own e = ap (λ (z : Process). record q { process = z }) e
after_alone bytes q machine (events.Unknown cs ip) u own e = ap (λ (z : Process). record q { process = z }) e

pub managed_alone : (bytes : List ℕ) (q : Managed) (u : Process) → GoesAlone q.process u → ManagedGoes bytes q (record q { process = u })
managed_alone bytes q u g = record {
  running = g.running;
  machine = g.machine;
  event = g.event;
  steps = g.steps;
  result = after_alone bytes q g.machine g.event u g.own g.result;
}
