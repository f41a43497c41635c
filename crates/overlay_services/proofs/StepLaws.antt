-- Each framed step of the resident machine takes a program that follows it along: by one event, by two, or by three.
use Rattle.std.proofs.Common.{◌≡◌, ◌≢◌, ℕ, suc, ◌==◌, Bool, true, false, List, refl, sym, ap, ◌∙◌, subst, arith, eq-eqb}
use Rattle.std.specs.Prelude.{if◌then◌else◌}
use Rattle.cpu_8086.specs.Process.{Process}
use Rattle.overlay_ring.specs.Table.{Table}
use Rattle.overlay_manager.specs.Serves.{table_before}
use Rattle.overlay_manager.specs.overlay_run.Managed.{Managed}
use Rattle.resident_machine.specs.Effect.{blurred, refused}
use Rattle.resident_machine.specs.Framed.{IsFramed, FramedAfter}
use Rattle.resident_machine.specs.Program.{Segment, Image, Overlay, Program}
use Rattle.resident_machine.specs.Run.{Goes}
use Rattle.resident_machine.specs.State.{ResidentState, Service, NoService, AtCall, AtReturn, AtClear}
use Rattle.resident_machine.specs.Whole.{IsNamed, IsWhole}
use Rattle.resident_machine.proofs.WholeRuns.{goes_whole}
use Rattle.return_repair.specs.Follows.{overlay_at}
use Rattle.return_repair.specs.Pairs.{is_out}
use Rattle.overlay_simulation.specs.Matching.{Matches, TellsApart}
use Rattle.overlay_simulation.specs.Plain.{GoesAlone}
use Rattle.overlay_simulation.specs.Shown.{IsIn}
use Rattle.overlay_simulation.specs.Trapping.{AtEntry, AtBegin}
use Rattle.overlay_simulation.proofs.EnterLaws.{enters, loaded_call, not_refused}
use Rattle.overlay_simulation.proofs.PlainLaws.{plain_event}
use Rattle.overlay_simulation.proofs.RefusedLaws.{sent, trap_found, steps_there, is_refused_there, matches_sent, was_refused}
use Rattle.overlay_simulation.proofs.ReturnLaws.{loaded_return, out_return}
use Rattle.overlay_simulation.proofs.TrapLaws.{past_trap}
use Rattle.overlay_services.specs.Seated.{IsSeated, ComesTo}
use Rattle.overlay_services.proofs.BackLaws.{return_served}
use Rattle.overlay_services.proofs.CallLaws.{call_served}
use Rattle.overlay_services.proofs.PassLaws.{Passes, passes_comes, by_one}
use Rattle.overlay_services.proofs.ClearLaws.{clear_served}
use Rattle.overlay_services.proofs.SoundLaws.{seated_told, sound_small}
use Rattle.overlay_services.proofs.TableEvents.{alone_event, refused_event}
use Rattle.tabled_runs.specs.Tables.{Tabled, On, TabledGoes}

-- an event, and what comes behind it
comes_later : (p : Program) (kept : ℕ → Bool) (bytes : List ℕ) (t : ResidentState) (start next : Tabled) (most : ℕ) → TabledGoes bytes start next → ComesTo p kept bytes t next most → ComesTo p kept bytes t start (suc most)
comes_later p kept bytes t start next most goes h = let few = h.few in record { events = suc h.events; some = omega arith; few = omega arith; end = h.end; runs = (next, goes, h.runs); follows = h.follows }

-- where a call into an overlay was not refused the installed flag is set
set_there : (p : Program) (t through : ResidentState) (v flag : ℕ) → t.cs ≡ Overlay v → t ≡ blurred (if flag == 0 then refused p through else through) → flag ≢ 0
set_there p t through v flag cs left none =
    let refuses : t ≡ blurred (refused p through) = left ∙ ap (λ (b : Bool). blurred (if b then refused p through else through)) (eq-eqb flag 0 none) in
    let e : Image p.error_routine.segment ≡ Overlay v = sym (ap (λ (z : ResidentState). z.cs) refuses) ∙ cs in
    absurd (cc)

module _ (p : Program) (kept : ℕ → Bool) (bytes : List ℕ) (r t : ResidentState) (q : Managed) (here : IsSeated p kept bytes q.manager) (whole : IsWhole p kept r) (m : Matches p r q) where
  told : TellsApart p (table_before q.manager)
  told = seated_told p kept bytes q.manager here

  pub whole_then : (service : Service) → Goes p r t service → IsWhole p kept t
  whole_then service g = goes_whole p kept r t service (sound_small p kept bytes q.manager here.sound) whole g

  -- ## Steps that take no table

  pub plain_passes : Goes p r t NoService → Passes p kept bytes t q 1
  plain_passes g = let h = plain_event p r t q told m g in by_one p kept bytes t q here h.0 h.1 h.2

  pub clear_passes : Goes p r t AtClear → IsFramed p true t → Passes p kept bytes t q 1
  clear_passes g framed = clear_served p kept bytes r t q here (whole_then AtClear g) m g framed

  -- a return into code that is in memory
  pub return_passes : Goes p r t AtReturn → IsFramed p false t → IsIn (table_before q.manager) t.cs → Passes p kept bytes t q 1
  return_passes g framed there = let h = loaded_return p r t q told m g framed there in by_one p kept bytes t q here h.0 h.1 h.2

  -- a call that is refused
  pub refused_passes : (number : ℕ) → t.cs ≡ Image number → Goes p r t AtCall → IsFramed p true t → Passes p kept bytes t q 2
  refused_passes number cs g framed =
      let first = enters p r t q told m g framed in
      let u = first.0 in
      let h = first.2 in
      let is = was_refused p t h.through h.overlay number h.flag h.cs cs h.left in
      let to : Managed = sent p t q u bytes here.sound.manages told h is.1 is.0 in
      let steps = steps_there p t q u bytes here.sound.manages told h is.1 is.0 in
      record {
        events = 2;
        some = omega arith;
        few = omega arith;
        end = to;
        runs = λ tables. (
          On (record q { process = u }) tables,
          alone_event bytes q tables u first.1,
          (
            On to tables,
            refused_event bytes (record q { process = u }) tables (past_trap u) steps.0 steps.1 (record { overlay = h.overlay; call = true }) (trap_found p t q u bytes here.sound.manages told h is.1 is.0) (is_refused_there p t q u bytes here.sound.manages told h is.1 is.0),
            refl,
          ),
        );
        seated = here;
        fit = λ fit. fit;
        matches = matches_sent p t q u bytes here.sound.manages told h is.1 is.0;
      }

  -- one into an overlay that is loaded
  pub loaded_passes : (v : ℕ) → t.cs ≡ Overlay v → is_out (overlay_at (table_before q.manager) v) ≡ false → Goes p r t AtCall → IsFramed p true t → Passes p kept bytes t q 2
  loaded_passes v cs loaded g framed =
      let h = loaded_call p r t q v told m g framed cs loaded in
      let between : Managed = record q { process = h.0 } in
      record {
        events = 2;
        some = omega arith;
        few = omega arith;
        end = record q { process = h.1 };
        runs = λ tables. (On between tables, alone_event bytes q tables h.0 h.2, (On (record q { process = h.1 }) tables, alone_event bytes between tables h.1 h.3, refl));
        seated = here;
        fit = λ fit. fit;
        matches = h.4;
      }

  -- ## Steps up to a stub

  -- a return into an overlay that is out
  pub back_to : (v : ℕ) → t.cs ≡ Overlay v → is_out (overlay_at (table_before q.manager) v) ≡ true → Goes p r t AtReturn → IsFramed p false t → (u : Process) × GoesAlone q.process u × AtBegin p t q u
  back_to v cs out g framed = out_return p r t q v told m g framed cs out (subst (IsNamed p) cs (whole_then AtReturn g).named)

  -- a call into one, which was not refused
  pub record CallsInto (v : ℕ) : Type 0 where
    pub u : Process
    pub alone : GoesAlone q.process u
    pub entry : AtEntry p t q u
    pub left : t ≡ blurred entry.through
    pub set : entry.flag ≢ 0
    pub out : is_out (overlay_at (table_before q.manager) entry.overlay) ≡ true

  pub calls_into : (v : ℕ) → t.cs ≡ Overlay v → is_out (overlay_at (table_before q.manager) v) ≡ true → Goes p r t AtCall → IsFramed p true t → CallsInto v
  calls_into v cs out g framed =
      let first = enters p r t q told m g framed in
      let h = first.2 in
      let left = not_refused p t h.through v (h.flag == 0) cs h.left in
      let same : Overlay h.overlay ≡ Overlay v = sym h.cs ∙ sym (ap (λ (z : ResidentState). z.cs) left) ∙ cs in
      let number : h.overlay ≡ v = cc in
      record {
        u = first.0;
        alone = first.1;
        entry = h;
        left = left;
        set = set_there p t h.through v h.flag cs h.left;
        out = ap (λ (n : ℕ). is_out (overlay_at (table_before q.manager) n)) number ∙ out;
      }

  -- ## Each step, whatever the next tables are

  pub return_comes : (tables : List Table) → Goes p r t AtReturn → IsFramed p false t → ComesTo p kept bytes t (On q tables) 2
  return_comes tables g framed = by t.cs refl
    where
      in_memory : IsIn (table_before q.manager) t.cs → ComesTo p kept bytes t (On q tables) 2
      in_memory there = passes_comes p kept bytes t q 1 2 tables (omega arith) (return_passes g framed there)

      into : (v : ℕ) → t.cs ≡ Overlay v → (out : Bool) → is_out (overlay_at (table_before q.manager) v) ≡ out → ComesTo p kept bytes t (On q tables) 2
      into v cs false loaded = in_memory (subst (IsIn (table_before q.manager)) (sym cs) loaded)
      into v cs true out =
          let h = back_to v cs out g framed in
          comes_later p kept bytes t (On q tables) (On (record q { process = h.0 }) tables) 1 (alone_event bytes q tables h.0 h.1) (return_served p kept bytes t q h.0 here (whole_then AtReturn g) framed h.2 tables)

      by : (cs : Segment) → t.cs ≡ cs → ComesTo p kept bytes t (On q tables) 2
      by (Image number) cs = in_memory (subst (IsIn (table_before q.manager)) (sym cs) tt)
      by (Overlay v) cs = into v cs (is_out (overlay_at (table_before q.manager) v)) refl

  pub call_comes : (tables : List Table) → Goes p r t AtCall → IsFramed p true t → ComesTo p kept bytes t (On q tables) 3
  call_comes tables g framed = by t.cs refl
    where
      into : (v : ℕ) → t.cs ≡ Overlay v → (out : Bool) → is_out (overlay_at (table_before q.manager) v) ≡ out → ComesTo p kept bytes t (On q tables) 3
      into v cs false loaded = passes_comes p kept bytes t q 2 3 tables (omega arith) (loaded_passes v cs loaded g framed)
      into v cs true out =
          let h = calls_into v cs out g framed in
          comes_later p kept bytes t (On q tables) (On (record q { process = h.u }) tables) 2 (alone_event bytes q tables h.u h.alone) (call_served p kept bytes t q h.u here (whole_then AtCall g) framed h.entry h.left h.set h.out tables)

      by : (cs : Segment) → t.cs ≡ cs → ComesTo p kept bytes t (On q tables) 3
      by (Image number) cs = passes_comes p kept bytes t q 2 3 tables (omega arith) (refused_passes number cs g framed)
      by (Overlay v) cs = into v cs (is_out (overlay_at (table_before q.manager) v)) refl

  pub plain_comes : (tables : List Table) → Goes p r t NoService → ComesTo p kept bytes t (On q tables) 1
  plain_comes tables g = passes_comes p kept bytes t q 1 1 tables (omega arith) (plain_passes g)

  pub clear_comes : (tables : List Table) → Goes p r t AtClear → IsFramed p true t → ComesTo p kept bytes t (On q tables) 1
  clear_comes tables g framed = passes_comes p kept bytes t q 1 1 tables (omega arith) (clear_passes g framed)

  pub step_comes : (tables : List Table) (service : Service) → Goes p r t service → FramedAfter p service t → ComesTo p kept bytes t (On q tables) 3
  step_comes tables NoService g framed = passes_comes p kept bytes t q 1 3 tables (omega arith) (plain_passes g)
  step_comes tables AtCall g framed = call_comes tables g framed
  step_comes tables AtReturn g framed = let h = return_comes tables g framed in let few = h.few in record { events = h.events; some = h.some; few = omega arith; end = h.end; runs = h.runs; follows = h.follows }
  step_comes tables AtClear g framed = passes_comes p kept bytes t q 1 3 tables (omega arith) (clear_passes g framed)
