-- A process that matches a whole state is ready for a service.
use Rattle.std.proofs.Common.{ℕ, Bool, ap}
use Rattle.cpu_8086.specs.declared.registers.Registers.{Registers}
use Rattle.overlay_manager.specs.Serves.{table_before}
use Rattle.overlay_manager.specs.overlay_run.Managed.{Managed}
use Rattle.resident_machine.specs.Program.{Program}
use Rattle.resident_machine.specs.State.{ResidentState}
use Rattle.resident_machine.specs.Whole.{IsWhole}
use Rattle.return_repair.specs.Follows.{none_met}
use Rattle.overlay_simulation.specs.Layout.{LieApart, IsReady}
use Rattle.overlay_simulation.specs.Managing.{Manages}
use Rattle.overlay_simulation.specs.Matching.{Matches, TellsApart}

pub matches_ready : (p : Program) (kept : ℕ → Bool) (t : ResidentState) (q : Managed) → Manages p q.manager → TellsApart p (table_before q.manager) → LieApart p q.manager kept → IsWhole p kept t → Matches p t q → IsReady p q.manager none_met kept t q.process.machine
matches_ready p kept t q manages told apart whole m = record {
  manages = manages;
  told = told;
  apart = apart;
  whole = whole;
  stack = record {
    ss = ap (λ (g : Registers). g.ss) m.stands.registers;
    sp = ap (λ (g : Registers). g.sp) m.stands.registers;
    bp = ap (λ (g : Registers). g.bp) m.stands.registers;
    size = m.stands.memory.size;
    known = m.stands.memory.known;
  };
  overlays = m.overlays;
}
