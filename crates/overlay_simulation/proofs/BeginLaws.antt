-- The event that a step of the resident machine begins with, of a process that matches.
use Rattle.std.proofs.Common.{◌≡◌, ℕ, Bool, List, [], Some, refl, sym, ap, ◌∙◌, subst}
use Rattle.std.specs.Prelude.{slice_get}
use Rattle.x86_table.specs.declared.instr.Instr.{Instr}
use Rattle.cpu_8086.specs.Process as process
use Rattle.cpu_8086.specs.Process.{Process, after_step}
use Rattle.cpu_8086.specs.Step.{effect, Steps}
use Rattle.cpu_8086.proofs.StepLaws.{steps_by}
use Rattle.overlay_manager.specs.Serves.{table_before}
use Rattle.overlay_manager.specs.overlay_run.Managed.{Managed}
use Rattle.resident_machine.specs.Program.{Segment, Image, Overlay, OverlayCode, Program, code_of}
use Rattle.resident_machine.specs.Cells.{Known, Cells}
use Rattle.resident_machine.specs.Run.{Goes}
use Rattle.resident_machine.specs.Standing.{HoldsCode, StandsFor}
use Rattle.resident_machine.specs.State.{ResidentState, Service}
use Rattle.return_repair.specs.declared.table.Loaded.{Loaded}
use Rattle.return_repair.specs.Follows.{none_met}
use Rattle.return_repair.specs.Pairs.{saved_at}
use Rattle.overlay_simulation.specs.Laid.{status_by}
use Rattle.overlay_simulation.specs.Matching.{size_of, HoldsOverlays, Matches, TellsApart}
use Rattle.overlay_simulation.specs.Plain.{IsOwn, GoesAlone}
use Rattle.overlay_simulation.specs.Shown.{number_by, IsIn, shown_state}
use Rattle.overlay_simulation.proofs.EffectLaws.{GoesSo, effect_mirrored, effect_parts, was_zero}
use Rattle.overlay_simulation.proofs.EventLaws.{IsOwnBut}
use Rattle.overlay_simulation.proofs.KeepLaws.{Stay, KeepsTopmost, overlays_stay, saved_stays}
use Rattle.overlay_simulation.proofs.LeadLaws.{leads_keep}
use Rattle.overlay_simulation.proofs.MirrorLaws.{bare, Leads}
use Rattle.overlay_simulation.proofs.OwnLaws.{effect_own}
use Rattle.overlay_simulation.proofs.StepLaws.{none, IsAt, Comes, stays, stands_there, stands_by, stands_bare, fetched_here, running, alone, end_bytes}
use Rattle.overlay_simulation.proofs.StubLaws.{bytes_from}
use Rattle.overlay_simulation.proofs.TableLaws.{own_stubs, overlay_code}

module _ (p : Program) (r t : ResidentState) (service : Service) (q : Managed) (told : TellsApart p (table_before q.manager)) (m : Matches p r q) (g : Goes p r t service)
    (flags : (there : ResidentState) → Leads p (table_before q.manager) none_met r service t there → there.cells p.installed ≡ t.cells p.installed) where
  abbrev table : List Loaded
  table = table_before q.manager

  abbrev memory : List ℕ
  memory = q.process.machine.memory

  abbrev i : Instr
  i = g.instruction

  abbrev seen : ResidentState
  seen = shown_state table none_met r

  code_here : HoldsCode r.cells memory (number_by table r.cs) g.stands.code
  code_here = by r.cs m.here g.stands.named
    where
      by : (cs : Segment) → IsIn table cs → code_of p cs ≡ Some g.stands.code → HoldsCode r.cells memory (number_by table cs) g.stands.code
      by (Image n) here named = m.stands.memory.code n g.stands.code named
      by (Overlay v) here named =
          let o = overlay_code p.overlays v g.stands.code named in
          subst (λ (code : List ℕ). HoldsCode r.cells memory (number_by table (Overlay v)) code) o.2 (m.overlays.code v o.0 o.1 here)

  abbrev at_here : IsAt p seen q.process i
  at_here = record {
    segment = number_by table r.cs;
    cs = refl;
    running = ap (status_by (number_by table)) g.running;
    stands = stands_bare p p seen q.process m.stands;
    code = g.stands.code;
    held = code_here;
    rest = g.stands.rest;
    spelled = g.stands.spelled;
  }

  abbrev goes_so : (bytes : ℕ → List ℕ) → GoesSo p bytes table none_met (own_stubs p table told) r m.here i service t
  goes_so bytes = effect_mirrored p bytes table none_met (own_stubs p table told) r m.here i service t g.result flags

  abbrev comes_here : (bytes : ℕ → List ℕ) → Comes p seen i t.cells bytes
  comes_here bytes = record {
    there = (goes_so bytes).there;
    follows = (goes_so bytes).follows;
    result = (goes_so bytes).goes;
    keeps = leads_keep p table none_met r t (goes_so bytes).there service (goes_so bytes).leads;
  }

  abbrev pub begun : Process
  begun = after_step q.process (effect q.process.machine g.instruction).0 (effect q.process.machine g.instruction).1

  -- where it led in the program without overlays
  pub record Begins : Type 0 where
    pub there : ResidentState
    pub leads : Leads p table none_met r service t there
    pub stands : StandsFor (bare p none) there begun

  pub begins : Begins
  begins =
      let so = goes_so (end_bytes p seen q.process i at_here t.cells comes_here) in
      record { there = so.there; leads = so.leads; stands = stands_there p seen q.process i at_here t.cells comes_here }

  -- the event is the process's own, but for a clear
  pub begins_so : IsOwnBut service (effect q.process.machine i).1
  begins_so = effect_own p r t seen service q.process i m.stands refl refl g.result

  pub begins_alone : IsOwn (effect q.process.machine i).1 → GoesAlone q.process begun
  begins_alone own = alone p seen q.process i at_here own

  -- the step as it is, whatever the event does
  pub steps_here : (q.process.status ≡ process.Running) × Steps q.process.machine (effect q.process.machine i).0 (effect q.process.machine i).1
  steps_here = (running p seen q.process i at_here, steps_by q.process.machine i (fetched_here p seen q.process i at_here).0 (fetched_here p seen q.process i at_here).1)

  -- ## What stays

  stays_here : (b : ℕ) (other : List ℕ) → (b ≡ number_by table r.cs → other ≡ g.stands.code) → HoldsCode r.cells memory b other → HoldsCode t.cells begun.machine.memory b other
  stays_here b other same held = stays p seen q.process i at_here t.cells comes_here b other same held

  -- code in memory and stubs
  stay_here : Stay p table r.cells t.cells memory begun.machine.memory
  stay_here = record { code = code; stub = stub }
    where
      code : (x : Segment) (code : List ℕ) → code_of p x ≡ Some code → IsIn table x → HoldsCode r.cells memory (number_by table x) code → HoldsCode t.cells begun.machine.memory (number_by table x) code
      code x bytes named here held = stays_here (number_by table x) bytes same held
        where
          same : number_by table x ≡ number_by table r.cs → bytes ≡ g.stands.code
          same at =
              let is : x ≡ r.cs = told.codes x r.cs (bytes, named) (g.stands.code, g.stands.named) here m.here at in
              let both : Some bytes ≡ Some g.stands.code = sym named ∙ ap (code_of p) is ∙ g.stands.named in
              cc

      stub : (v : ℕ) (o : OverlayCode) → slice_get p.overlays v ≡ Some o → HoldsCode r.cells memory o.stub (bytes_from memory o.stub 0 (size_of o)) → HoldsCode t.cells begun.machine.memory o.stub (bytes_from memory o.stub 0 (size_of o))
      stub v o found held =
          stays_here o.stub (bytes_from memory o.stub 0 (size_of o)) (λ at. absurd (told.others v o r.cs found (g.stands.code, g.stands.named) m.here at)) held

  pub overlays_begun : (met : ℕ → Bool) → KeepsTopmost table met r.records t.records → HoldsOverlays p q.manager met t.cells t.records begun.machine.memory
  overlays_begun met topmost = overlays_stay p q.manager told none_met met r.cells t.cells r.records t.records memory begun.machine.memory m.overlays stay_here (λ stub new. refl) topmost

  pub saved_begun : (v : ℕ) (o : OverlayCode) → slice_get p.overlays v ≡ Some o → saved_at begun.machine.memory o.stub ≡ saved_at memory o.stub
  saved_begun v o found = saved_stays p q.manager told none_met none_met r.cells t.cells r.records t.records memory begun.machine.memory m.overlays stay_here v o found

  pub flag_begun : t.cells p.installed ≡ Known 0 → q.manager.ring.seats ≡ []
  flag_begun unset = m.flag (was_zero (r.cells p.installed) (t.cells p.installed) (effect_parts p r i (t, service) g.result).1 unset)

  pub image_begun : (segment : ℕ) (code : List ℕ) → p.image segment ≡ Some code → HoldsCode t.cells begun.machine.memory segment code
  image_begun segment code named = stay_here.code (Image segment) code named tt (m.stands.memory.code segment code named)

  -- a state with the cells of t, with the program's code
  pub stands_whole : (x : ResidentState) → x.cells ≡ t.cells → StandsFor (bare p none) x begun → StandsFor p x begun
  stands_whole x same h = stands_by (bare p none) p x begun h (λ segment code named. subst (λ (c : Cells). HoldsCode c begun.machine.memory segment code) (sym same) (image_begun segment code named))
