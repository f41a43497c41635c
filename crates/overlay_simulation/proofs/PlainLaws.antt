-- An event after which no service may follow takes a process that matches to one that matches.
use Rattle.std.proofs.Common.{refl, subst}
use Rattle.cpu_8086.specs.Process.{Process}
use Rattle.overlay_manager.specs.Serves.{table_before}
use Rattle.overlay_manager.specs.overlay_run.Managed.{Managed}
use Rattle.resident_machine.specs.Program.{Program}
use Rattle.resident_machine.specs.Run.{Goes}
use Rattle.resident_machine.specs.Standing.{StandsFor}
use Rattle.resident_machine.specs.State.{ResidentState, NoService}
use Rattle.return_repair.specs.Follows.{none_met}
use Rattle.overlay_simulation.specs.Matching.{Matches, TellsApart}
use Rattle.overlay_simulation.specs.Plain.{GoesAlone}
use Rattle.overlay_simulation.specs.Shown.{shown_state}
use Rattle.overlay_simulation.proofs.BeginLaws.{begun, begins, begins_so, begins_alone, overlays_begun, flag_begun, stands_whole}
use Rattle.overlay_simulation.proofs.LeadLaws.{plain_flag}
use Rattle.overlay_simulation.proofs.MirrorLaws.{bare}
use Rattle.overlay_simulation.proofs.StepLaws.{none}

pub plain_event : (p : Program) (r t : ResidentState) (q : Managed) → TellsApart p (table_before q.manager) → Matches p r q → Goes p r t NoService → (u : Process) × GoesAlone q.process u × Matches p t (record q { process = u })
plain_event p r t q told m g =
    let table = table_before q.manager in
    let flags = plain_flag p table none_met r t in
    let h = begins p r t NoService q told m g flags in
    let u : Process = begun p r t NoService q told m g flags in
    let stands = subst (λ (x : ResidentState). StandsFor (bare p none) x u) h.leads.state h.stands in (
      u,
      begins_alone p r t NoService q told m g flags (begins_so p r t NoService q told m g flags),
      record {
        stands = stands_whole p r t NoService q told m g flags (shown_state table none_met t) refl stands;
        here = h.leads.cs;
        overlays = overlays_begun p r t NoService q told m g flags none_met (λ v out unmet. h.leads.topmost v out);
        flag = flag_begun p r t NoService q told m g flags;
      },
    )
