-- A framed run of the resident machine, and a program that follows it step by step.
use Rattle.std.proofs.Common.{◌≡◌, ℕ, zero, suc, ◌+◌, ◌<◌, Bool, List, [], ◌++◌, refl, sym, subst, arith, ◌*◌}
use Rattle.std.proofs.lemmas.List.{append_assoc}
use Rattle.cpu_8086.specs.Process.{Status}
use Rattle.overlay_ring.specs.Table.{Table}
use Rattle.overlay_manager.specs.overlay_run.Managed.{Managed}
use Rattle.resident_machine.specs.Program.{Segment, Program}
use Rattle.resident_machine.specs.Run.{RunsFramed}
use Rattle.resident_machine.specs.Standing.{status_of}
use Rattle.resident_machine.specs.State.{ResidentStatus, Running, Ended, Stopped, ResidentState}
use Rattle.resident_machine.specs.Whole.{IsWhole}
use Rattle.resident_machine.proofs.WholeRuns.{goes_whole}
use Rattle.overlay_manager.specs.Serves.{table_before}
use Rattle.overlay_simulation.specs.Laid.{status_by}
use Rattle.overlay_simulation.specs.Matching.{Matches}
use Rattle.overlay_simulation.specs.Shown.{number_by}
use Rattle.overlay_services.specs.Seated.{IsSeated, Follows, ComesTo, FitAlone, ComesBySome}
use Rattle.overlay_services.proofs.SoundLaws.{sound_small}
use Rattle.overlay_services.proofs.StepLaws.{step_comes}
use Rattle.overlay_services.proofs.TurnLaws.{step_turns}
use Rattle.overlay_correctness.specs.Beside.{TakesAtLeast, RunsBeside, StandsAlike, ShowsSame}
use Rattle.tabled_runs.specs.Tables.{Tabled, On, NotLegal, TabledRuns}
use Rattle.tabled_runs.proofs.RunLaws.{runs_compose}

-- more events are no fewer
at_least : (count events more : ℕ) (end : Tabled) → TakesAtLeast count events end → 0 < more → TakesAtLeast (suc count) (more + events) end
at_least count events more (On q tables) many some = omega arith
at_least count events more NotLegal many some = tt

pub runs_beside : (p : Program) (kept : ℕ → Bool) (bytes : List ℕ) (n : ℕ) (r t : ResidentState) (q : Managed) (tables : List Table) → IsSeated p kept bytes q.manager → IsWhole p kept r → Matches p r q → RunsFramed p n r t → RunsBeside p kept bytes n t (On q tables)
runs_beside p kept bytes zero r t q tables here whole m x = record {
  events = 0;
  few = omega arith;
  end = On q tables;
  runs = refl;
  many = omega arith;
  follows = (here, subst (λ (z : ResidentState). Matches p z q) x m);
}
runs_beside p kept bytes (suc n) r t q tables here whole m x = by first.end first.runs first.follows (λ next left there matches. runs_beside p kept bytes n x.0 t next left there whole_then matches x.4)
  where
    first : ComesTo p kept bytes x.0 (On q tables) 3
    first = step_comes p kept bytes r x.0 q here whole m tables x.1 x.2 x.3

    whole_then : IsWhole p kept x.0
    whole_then = goes_whole p kept r x.0 x.1 (sound_small p kept bytes q.manager here.sound) whole x.2

    by : (end : Tabled) → TabledRuns bytes first.events (On q tables) end → Follows p kept bytes x.0 end → ((next : Managed) (left : List Table) → IsSeated p kept bytes next.manager → Matches p x.0 next → RunsBeside p kept bytes n t (On next left)) → RunsBeside p kept bytes (suc n) t (On q tables)
    by NotLegal runs follows again = let few = first.few in record { events = first.events; few = omega arith; end = NotLegal; runs = runs; many = tt; follows = tt }
    by (On next left) runs follows again =
        let rest = again next left follows.0 follows.1 in
        let few = first.few in
        let fewer = rest.few in
        record {
          events = first.events + rest.events;
          few = omega arith;
          end = rest.end;
          runs = runs_compose bytes first.events rest.events (On q tables) (On next left) rest.end runs rest.runs;
          many = at_least n rest.events first.events rest.end rest.many first.some;
          follows = rest.follows;
        }

-- there are tables by which it comes there
pub runs_by_some : (p : Program) (kept : ℕ → Bool) (bytes : List ℕ) (n : ℕ) (r t : ResidentState) (q : Managed) → IsSeated p kept bytes q.manager → IsWhole p kept r → Matches p r q → FitAlone p q.manager → RunsFramed p n r t → ComesBySome p kept bytes t q (3 * n)
runs_by_some p kept bytes zero r t q here whole m fit x = record {
  taken = [];
  events = 0;
  few = omega arith;
  end = q;
  runs = λ later. refl;
  seated = here;
  fit = fit;
  matches = subst (λ (z : ResidentState). Matches p z q) x m;
}
runs_by_some p kept bytes (suc n) r t q here whole m fit x =
    let first = step_turns p kept bytes r x.0 q here whole m fit x.1 x.2 x.3 in
    let rest = runs_by_some p kept bytes n x.0 t first.end first.seated (goes_whole p kept r x.0 x.1 (sound_small p kept bytes q.manager here.sound) whole x.2) first.matches first.fit x.4 in
    let few = first.few in
    let fewer = rest.few in
    record {
      taken = first.taken ++ rest.taken;
      events = first.events + rest.events;
      few = omega arith;
      end = rest.end;
      runs = λ later. runs_compose bytes first.events rest.events (On q ((first.taken ++ rest.taken) ++ later)) (On first.end (rest.taken ++ later)) (On rest.end later)
          (subst (λ (tables : List Table). TabledRuns bytes first.events (On q tables) (On first.end (rest.taken ++ later))) (sym (append_assoc first.taken rest.taken later)) (first.runs (rest.taken ++ later)))
          (rest.runs later);
      seated = rest.seated;
      fit = rest.fit;
      matches = rest.matches;
    }

-- ## What is shown

alike : (number : Segment → ℕ) (status : ResidentStatus) (q : Status) → q ≡ status_of (status_by number status) → StandsAlike status q
alike number Running q is = is
alike number (Ended code) q is = is
alike number (Stopped segment offset why) q is = (number segment, is)

pub shows_same : (p : Program) (t : ResidentState) (q : Managed) → Matches p t q → ShowsSame t q.process
shows_same p t q m = record {
  input = m.stands.input;
  taken = m.stands.taken;
  out = m.stands.out;
  err = m.stands.err;
  status = alike (number_by (table_before q.manager)) t.status q.process.status m.stands.status;
}
