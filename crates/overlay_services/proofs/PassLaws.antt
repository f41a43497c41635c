-- Steps that take no table: whatever tables come, the program goes on by the same events, and all are left.
use Rattle.std.proofs.Common.{ℕ, ◌<◌, ◌≤◌, Bool, List, [], refl, arith}
use Rattle.cpu_8086.specs.Process.{Process}
use Rattle.overlay_ring.specs.Table.{Table}
use Rattle.overlay_manager.specs.overlay_run.Managed.{Managed}
use Rattle.resident_machine.specs.Program.{Program}
use Rattle.resident_machine.specs.State.{ResidentState}
use Rattle.overlay_simulation.specs.Matching.{Matches}
use Rattle.overlay_simulation.specs.Plain.{GoesAlone}
use Rattle.overlay_services.specs.Seated.{IsSeated, ComesTo, FitAlone, ComesBySome}
use Rattle.overlay_services.proofs.TableEvents.{alone_event}
use Rattle.tabled_runs.specs.Tables.{On, TabledRuns}

pub record Passes (p : Program) (kept : ℕ → Bool) (bytes : List ℕ) (t : ResidentState) (q : Managed) (most : ℕ) : Type 0 where
  pub events : ℕ
  pub some : 0 < events
  pub few : events ≤ most
  pub end : Managed
  pub runs : (tables : List Table) → TabledRuns bytes events (On q tables) (On end tables)
  pub seated : IsSeated p kept bytes end.manager
  pub fit : FitAlone p q.manager → FitAlone p end.manager
  pub matches : Matches p t end

pub passes_comes : (p : Program) (kept : ℕ → Bool) (bytes : List ℕ) (t : ResidentState) (q : Managed) (few most : ℕ) (tables : List Table) → few ≤ most → Passes p kept bytes t q few → ComesTo p kept bytes t (On q tables) most
passes_comes p kept bytes t q few most tables le h = let less = h.few in record { events = h.events; some = h.some; few = omega arith; end = On h.end tables; runs = h.runs tables; follows = (h.seated, h.matches) }

pub passes_some : (p : Program) (kept : ℕ → Bool) (bytes : List ℕ) (t : ResidentState) (q : Managed) (few most : ℕ) → few ≤ most → FitAlone p q.manager → Passes p kept bytes t q few → ComesBySome p kept bytes t q most
passes_some p kept bytes t q few most le fit h = let less = h.few in record { taken = []; events = h.events; few = omega arith; end = h.end; runs = h.runs; seated = h.seated; fit = h.fit fit; matches = h.matches }

-- one event of its own
pub by_one : (p : Program) (kept : ℕ → Bool) (bytes : List ℕ) (t : ResidentState) (q : Managed) → IsSeated p kept bytes q.manager → (u : Process) → GoesAlone q.process u → Matches p t (record q { process = u }) → Passes p kept bytes t q 1
by_one p kept bytes t q here u goes matches = record {
  events = 1;
  some = omega arith;
  few = omega arith;
  end = record q { process = u };
  runs = λ tables. (On (record q { process = u }) tables, alone_event bytes q tables u goes, refl);
  seated = here;
  fit = λ fit. fit;
  matches = matches;
}
