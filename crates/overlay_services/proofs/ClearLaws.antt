-- A clear of the buffer: an INT 60h in code of the image, which sends all overlays out.
use Rattle.std.proofs.Common.{◌≡◌, ◌⊎◌, inl, inr, ℕ, ◌*◌, ◌==◌, Bool, true, false, List, [], ◌∷◌, length, Some, Ok, refl, sym, ap, ◌∙◌, subst, arith, eq-eqb, eqb-true}
use Rattle.std.specs.Prelude.{if◌then◌else◌, slice_get}
use Rattle.std.proofs.lemmas.List.{length-map}
use Rattle.std.proofs.lemmas.Option.{slice_get_within}
use Rattle.cpu_8086.specs.declared.machine.Event.{Event}
use Rattle.cpu_8086.specs.declared.machine.Event.TheVariants as events
use Rattle.cpu_8086.specs.declared.registers.Far.{Far}
use Rattle.cpu_8086.specs.Process as process
use Rattle.cpu_8086.specs.Process.{Process, after_step}
use Rattle.cpu_8086.specs.State.{State}
use Rattle.cpu_8086.specs.Step.{effect, Steps}
use Rattle.overlay_manager.specs.Manager as manager
use Rattle.overlay_manager.specs.Manager.{Manager, buffer_segment, table_from, table_by, with_seats, with_stubs, sent_out}
use Rattle.overlay_manager.specs.Serves.{table_before}
use Rattle.overlay_manager.specs.overlay_run.Managed.{Managed, goes_on}
use Rattle.overlay_manager.proofs.ServiceLaws.{loaded_of, chain-loaded, followed-is}
use Rattle.overlay_manager.proofs.WithinLaws.{within-same}
use Rattle.resident_machine.specs.Framed.{IsFramed}
use Rattle.resident_machine.specs.Program.{Segment, Image, Overlay, OverlayCode, Program}
use Rattle.resident_machine.specs.Run.{Goes}
use Rattle.resident_machine.specs.Standing.{words_of, HoldsMemory, StandsFor}
use Rattle.resident_machine.specs.State.{ResidentState, Running, AtClear}
use Rattle.resident_machine.specs.Whole.{IsImage, IsWhole}
use Rattle.return_repair.specs.declared.table.Loaded.{Loaded}
use Rattle.return_repair.specs.Chain.{chain_of, links_of}
use Rattle.return_repair.specs.Pairs.{is_out}
use Rattle.return_repair.specs.Follows.{overlay_at, none_met}
use Rattle.overlay_simulation.specs.Laid.{with_pairs}
use Rattle.overlay_simulation.specs.Matching.{HoldsOverlays, Matches, TellsApart}
use Rattle.overlay_simulation.specs.Plain.{IsOwn}
use Rattle.overlay_simulation.specs.Shown.{IsIn, number_by, items_of, pairs_by, shown_state}
use Rattle.overlay_simulation.proofs.BeginLaws.{begun, begins, begins_so, begins_alone, steps_here, overlays_begun, flag_begun, stands_whole}
use Rattle.overlay_simulation.proofs.EffectLaws.{effect_parts}
use Rattle.overlay_simulation.proofs.LeadLaws.{clear_flag}
use Rattle.overlay_simulation.proofs.MirrorLaws.{bare, Leads}
use Rattle.overlay_simulation.proofs.OrderLaws.{chain_is}
use Rattle.overlay_simulation.proofs.OwnLaws.{unhalved}
use Rattle.overlay_simulation.proofs.RefusedLaws.{all_out}
use Rattle.overlay_simulation.proofs.StepLaws.{none}
use Rattle.overlay_services.specs.Seated.{IsSeated, FitAlone}
use Rattle.overlay_services.proofs.PassLaws.{Passes, by_one}
use Rattle.overlay_services.proofs.ReadyLaws.{begins_whole, stands_after}
use Rattle.overlay_services.proofs.SoundLaws.{sound_with, seated_told}
use Rattle.overlay_services.proofs.TableEvents.{clear_event}
use Rattle.overlay_services.proofs.WrittenLaws as whole
use Rattle.overlay_services.proofs.WrittenLaws.{Begins, steps, memory_written, overlays_after}
use Rattle.tabled_runs.specs.Tables.{TabledRuns, On, emptied}

in_image : (table : List Loaded) (cs : Segment) → IsImage cs → IsIn table cs
in_image table (Image number) image = tt
in_image table (Overlay v) image = absurd image

same_number : (old new : List Loaded) (cs : Segment) → IsImage cs → number_by old cs ≡ number_by new cs
same_number old new (Image number) image = refl
same_number old new (Overlay v) image = absurd image

module _ (p : Program) (kept : ℕ → Bool) (bytes : List ℕ) (r t : ResidentState) (q : Managed) (here : IsSeated p kept bytes q.manager) (whole_t : IsWhole p kept t) (m : Matches p r q) (g : Goes p r t AtClear) (framed : IsFramed p true t) where
  abbrev old : List Loaded
  old = table_before q.manager

  told_old : TellsApart p old
  told_old = seated_told p kept bytes q.manager here

  flags : (there : ResidentState) → Leads p old none_met r AtClear t there → there.cells p.installed ≡ t.cells p.installed
  flags there = clear_flag p old none_met r t there

  abbrev u : Process
  u = begun p r t AtClear q told_old m g flags

  abbrev step : State × Event
  step = effect q.process.machine g.instruction

  -- where the step led
  image : IsImage t.cs
  image = (begins p r t AtClear q told_old m g flags).leads.image

  half : t.half ≡ false
  half =
      let h = begins p r t AtClear q told_old m g flags in
      h.leads.half ∙ unhalved p r t AtClear g.instruction (effect_parts p r g.instruction (t, AtClear) g.result).0 (λ same. absurd (cc))

  runs : t.status ≡ Running
  runs = (begins p r t AtClear q told_old m g flags).leads.status ∙ g.running

  stands_u : StandsFor p (shown_state old none_met t) u
  stands_u =
      let h = begins p r t AtClear q told_old m g flags in
      stands_whole p r t AtClear q told_old m g flags (shown_state old none_met t) refl (subst (λ (x : ResidentState). StandsFor (bare p none) x u) h.leads.mirrors.state h.stands)

  overlays_u : HoldsOverlays p q.manager none_met t.cells t.records u.machine.memory
  overlays_u =
      let h = begins p r t AtClear q told_old m g flags in
      overlays_begun p r t AtClear q told_old m g flags none_met (λ v out unmet. h.leads.mirrors.topmost v out)

  -- an event that clears nothing
  gone_alone : IsOwn step.1 → Passes p kept bytes t q 1
  gone_alone own =
      by_one p kept bytes t q here u (begins_alone p r t AtClear q told_old m g flags own)
      (record { stands = stands_u; here = in_image old t.cs image; overlays = overlays_u; flag = flag_begun p r t AtClear q told_old m g flags })

  -- ## All overlays go out

  module _ (clears : step.1 ≡ events.Service 96) where
    abbrev s : State
    s = step.0

    -- the process past the INT
    abbrev past : Process
    past = record q.process { machine = s }

    is_past : u ≡ past
    is_past = ap (after_step q.process s) clears

    stands_past : StandsFor p (shown_state old none_met t) past
    stands_past = subst (StandsFor p (shown_state old none_met t)) is_past stands_u

    overlays_past : HoldsOverlays p q.manager none_met t.cells t.records s.memory
    overlays_past = subst (λ (z : Process). HoldsOverlays p q.manager none_met t.cells t.records z.machine.memory) is_past overlays_u

    abbrev spot : Far
    spot = record { offset = t.registers.ip; segment = number_by old t.cs }

    ready : Begins p kept bytes q.manager none_met t s true (items_of t.records)
    ready = begins_whole p kept bytes q.manager here.sound told_old t whole_t half true framed spot past stands_past overlays_past s (record { ss = refl; sp = refl; bp = refl; memory = refl })

    chain : chain_of q.manager.marked s ≡ Ok framed.links
    chain = chain_is p q.manager none_met kept t s true ready.ready framed

    clears_so : (next : Managed) → emptied q s ≡ next → IsSeated p kept bytes next.manager → (FitAlone p q.manager → FitAlone p next.manager) → Matches p t next → Passes p kept bytes t q 1
    clears_so next is seated fit matches =
        let there = steps_here p r t AtClear q told_old m g flags in
        let steps = subst (Steps q.process.machine s) clears there.1 in
        record {
          events = 1;
          some = omega arith;
          few = omega arith;
          end = next;
          runs = λ tables. subst (λ (z : Managed). TabledRuns bytes 1 (On q tables) (On z tables)) is (On (emptied q s) tables, clear_event bytes q tables s framed.links there.0 steps chain, refl);
          seated = seated;
          fit = fit;
          matches = matches;
        }

    -- without stubs there is nothing to send
    module _ (no_stubs : length q.manager.stubs ≡ 0) where
      abbrev kept_on : Managed
      kept_on = record q { process = past; manager = with_seats q.manager [] }

      nothing : (v : ℕ) (o : OverlayCode) → slice_get p.overlays v ≡ Some o → ⊥
      nothing v o found =
          let inside = slice_get_within p.overlays v o found in
          let same : length q.manager.stubs ≡ length p.overlays = ap length here.sound.manages.stubs ∙ length-map p.overlays (λ (o : OverlayCode). o.stub) in
          omega arith

      same_table : old ≡ table_by q.manager []
      same_table = by q.manager.stubs no_stubs
        where
          by : (stubs : List ℕ) → length stubs ≡ 0 → table_from q.manager.ring.room q.manager.ring.seats 0 stubs ≡ table_from q.manager.ring.room [] 0 stubs
          by [] is = refl
          by (stub ∷ stubs) is = absurd (omega arith)

      matches_on : Matches p t kept_on
      matches_on = record {
        stands = subst (λ (table : List Loaded). StandsFor p (shown_state table none_met t) past) same_table stands_past;
        here = in_image (table_by q.manager []) t.cs image;
        overlays = record {
          code = λ v o found loaded. absurd (nothing v o found);
          stubs = λ v o found. absurd (nothing v o found);
          saved = λ v o offset found out unmet topmost. absurd (nothing v o found);
        };
        flag = λ unset. refl;
      }

    -- with stubs all of them are written, and live returns follow
    abbrev new : List Loaded
    new = table_by q.manager []

    abbrev sent : State
    sent = record s { memory = sent_out q.manager s }

    abbrev sent_on : Managed
    sent_on = goes_on q sent (manager.emptied q.manager s)

    written_is : whole.written p kept bytes q.manager none_met t s true (items_of t.records) ready [] tt s.memory (within-same (16 * buffer_segment q.manager.ring.room) 0xA0000 s.memory) ≡ sent_out q.manager s
    written_is =
        let links = links_of (chain_of q.manager.marked s) in
        let stepped = steps p kept bytes q.manager none_met t s true (items_of t.records) ready [] tt s.memory (within-same (16 * buffer_segment q.manager.ring.room) 0xA0000 s.memory) in
        ap (with_stubs q.manager.stubs [] 0 old new) (followed-is q.manager.marked (loaded_of s s.memory) true old new links (chain-loaded q.manager s true [] s.memory stepped))

    all_are_out : (v : ℕ) (o : OverlayCode) → slice_get p.overlays v ≡ Some o → is_out (overlay_at new v) ≡ false → ⊥
    all_are_out v o found loaded = let e = sym (eq-eqb (overlay_at new v).load 0 (all_out (with_seats q.manager []) refl v)) ∙ loaded in absurd (cc)

    overlays_sent : HoldsOverlays p (with_seats q.manager []) none_met t.cells t.records (sent_out q.manager s)
    overlays_sent = subst (HoldsOverlays p (with_seats q.manager []) none_met t.cells t.records) written_is
        (overlays_after p kept bytes q.manager none_met t s true (items_of t.records) ready [] tt s.memory (within-same (16 * buffer_segment q.manager.ring.room) 0xA0000 s.memory) (λ v o found loaded. absurd (all_are_out v o found loaded)))

    memory_sent : HoldsMemory p t.registers.ss t.cells (sent_out q.manager s) (words_of (with_pairs t.records (pairs_by new none_met t.records)))
    memory_sent =
        subst (λ (n : ℕ). HoldsMemory p n t.cells (sent_out q.manager s) (words_of (with_pairs t.records (pairs_by new none_met t.records)))) ready.ready.stack.ss
        (subst (λ (memory : List ℕ). HoldsMemory p s.registers.ss t.cells memory (words_of (with_pairs t.records (pairs_by new none_met t.records)))) written_is
        (memory_written p kept bytes q.manager none_met t s true (items_of t.records) ready [] tt s.memory (within-same (16 * buffer_segment q.manager.ring.room) 0xA0000 s.memory)))

    matches_sent : Matches p t sent_on
    matches_sent = record {
      stands = stands_after p old new none_met t spot (record { offset = t.registers.ip; segment = number_by new t.cs }) past s.registers s.cs (sent_out q.manager s) half runs stands_past stands_past.registers
          (stands_past.cs ∙ same_number old new t.cs image) memory_sent;
      here = in_image new t.cs image;
      overlays = record { code = overlays_sent.code; stubs = overlays_sent.stubs; saved = overlays_sent.saved };
      flag = λ unset. refl;
    }

    cleared : Passes p kept bytes t q 1
    cleared = by (length q.manager.stubs == 0) refl
      where
        -- what the machine and the manager come to
        memory_if : Bool → List ℕ
        memory_if b = if b then s.memory else sent_out q.manager s

        manager_if : Bool → Manager
        manager_if b = if b then with_seats q.manager [] else manager.emptied q.manager s

        by : (b : Bool) → (length q.manager.stubs == 0) ≡ b → Passes p kept bytes t q 1
        by true is =
            clears_so (kept_on (eqb-true (length q.manager.stubs) 0 is)) (ap (λ (b : Bool). goes_on q (record s { memory = memory_if b }) (manager_if b)) is)
            (record { sound = sound_with p kept bytes q.manager [] q.manager.tally here.sound; table = tt }) (λ fit. fit) (matches_on (eqb-true (length q.manager.stubs) 0 is))
        by false is =
            clears_so sent_on (ap (λ (b : Bool). goes_on q (record s { memory = memory_if b }) (manager_if b)) is)
            (record { sound = sound_with p kept bytes q.manager [] (manager.emptied q.manager s).tally here.sound; table = tt }) (λ fit. fit) matches_sent

  pub clear_served : Passes p kept bytes t q 1
  clear_served = by (begins_so p r t AtClear q told_old m g flags)
    where
      by : IsOwn step.1 ⊎ (step.1 ≡ events.Service 96) → Passes p kept bytes t q 1
      by (inl own) = gone_alone own
      by (inr clears) = cleared clears
