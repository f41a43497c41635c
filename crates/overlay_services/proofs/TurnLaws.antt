-- There are tables for each step: where a service is asked for, the overlay that is wanted stands alone in the buffer.
use Rattle.std.proofs.Common.{◌≡◌, ℕ, ◌+◌, ◌==◌, Bool, true, false, List, [], ◌∷◌, length, refl, sym, ap, ◌∙◌, subst, arith}
use Rattle.std.specs.Prelude.{nat_le, nat_lt, slice_get, slice_index, Some}
use Rattle.std.proofs.lemmas.Bool.Decides.{nat_tests}
use Rattle.std.proofs.lemmas.List.{length-map}
use Rattle.overlay_ring.specs.Table.{Table, is_legal_table}
use Rattle.overlay_manager.specs.Manager.{Manager, paragraphs_of}
use Rattle.overlay_manager.specs.Serves.{table_before}
use Rattle.overlay_manager.specs.overlay_run.Managed.{Managed}
use Rattle.resident_machine.specs.Framed.{IsFramed, FramedAfter}
use Rattle.resident_machine.specs.Program.{Segment, Image, Overlay, OverlayCode, Program}
use Rattle.resident_machine.specs.Run.{Goes}
use Rattle.resident_machine.specs.State.{ResidentState, Service, NoService, AtCall, AtReturn, AtClear}
use Rattle.resident_machine.specs.Whole.{IsWhole}
use Rattle.return_repair.specs.Follows.{overlay_at}
use Rattle.return_repair.specs.Pairs.{is_out}
use Rattle.overlay_simulation.specs.Matching.{Matches}
use Rattle.overlay_simulation.specs.Shown.{IsIn}
use Rattle.overlay_services.specs.Sound.{IsSound}
use Rattle.overlay_services.specs.Seated.{IsSeated, FitAlone, ComesBySome}
use Rattle.overlay_services.proofs.BackLaws.{served_it, back_runs, back_follows}
use Rattle.overlay_services.proofs.CallLaws.{has_size, legal_end, legal_runs, legal_follows}
use Rattle.overlay_services.proofs.PassLaws.{passes_some}
use Rattle.overlay_services.proofs.StepLaws.{whole_then, plain_passes, clear_passes, return_passes, refused_passes, loaded_passes, back_to, calls_into}
use Rattle.overlay_services.proofs.TableEvents.{alone_event}
use Rattle.tabled_runs.specs.Tables.{On, alone}

alone_legal : (p : Program) (kept : ℕ → Bool) (bytes : List ℕ) (m : Manager) → IsSound p kept bytes m → FitAlone p m → (v : ℕ) (o : OverlayCode) → slice_get p.overlays v ≡ Some o → is_legal_table m.ring.sizes m.ring.room v (alone v) ≡ true
alone_legal p kept bytes m sound fit v o found =
    let inside = (has_size p kept bytes m sound v o found).1 in
    let count = sound.count in
    let sizes : length m.ring.sizes ≡ length m.entries = ap length (sym sound.sizes) ∙ length-map m.entries paragraphs_of in
    let small = fit v o found in
    let a : nat_lt v (length m.ring.sizes) ≡ true = grind (arith, nat_tests) in
    let b : nat_le (0 + slice_index m.ring.sizes v) m.ring.room ≡ true = grind (arith, nat_tests) in
    let c : (v == v) ≡ true = grind (arith, nat_tests) in
    rw (a, b, c) refl

module _ (p : Program) (kept : ℕ → Bool) (bytes : List ℕ) (r t : ResidentState) (q : Managed) (here : IsSeated p kept bytes q.manager) (whole : IsWhole p kept r) (m : Matches p r q) (fit : FitAlone p q.manager) where
  return_turns : Goes p r t AtReturn → IsFramed p false t → ComesBySome p kept bytes t q 3
  return_turns g framed = by t.cs refl
    where
      in_memory : IsIn (table_before q.manager) t.cs → ComesBySome p kept bytes t q 3
      in_memory there = passes_some p kept bytes t q 1 3 (omega arith) fit (return_passes p kept bytes r t q here whole m g framed there)

      into : (v : ℕ) → t.cs ≡ Overlay v → (out : Bool) → is_out (overlay_at (table_before q.manager) v) ≡ out → ComesBySome p kept bytes t q 3
      into v cs false loaded = in_memory (subst (IsIn (table_before q.manager)) (sym cs) loaded)
      into v cs true out =
          let h = back_to p kept bytes r t q here whole m v cs out g framed in
          let w = whole_then p kept bytes r t q here whole m AtReturn g in
          let legal = alone_legal p kept bytes q.manager here.sound fit h.2.overlay h.2.code h.2.found in
          let turn : Table = alone h.2.overlay in
          let led : Managed = record q { process = h.0 } in
          let follows = back_follows p kept bytes t q h.0 here w framed h.2 (turn ∷ []) legal in
          record {
            taken = turn ∷ [];
            events = 2;
            few = omega arith;
            end = served_it p kept bytes t q h.0 here w framed h.2 (turn ∷ []) legal;
            runs = λ later. (On led (turn ∷ later), alone_event bytes q (turn ∷ later) h.0 h.1, back_runs p kept bytes t q h.0 here w framed h.2 (turn ∷ later) legal);
            seated = follows.0;
            fit = fit;
            matches = follows.1;
          }

      by : (cs : Segment) → t.cs ≡ cs → ComesBySome p kept bytes t q 3
      by (Image number) cs = in_memory (subst (IsIn (table_before q.manager)) (sym cs) tt)
      by (Overlay v) cs = into v cs (is_out (overlay_at (table_before q.manager) v)) refl

  call_turns : Goes p r t AtCall → IsFramed p true t → ComesBySome p kept bytes t q 3
  call_turns g framed = by t.cs refl
    where
      into : (v : ℕ) → t.cs ≡ Overlay v → (out : Bool) → is_out (overlay_at (table_before q.manager) v) ≡ out → ComesBySome p kept bytes t q 3
      into v cs false loaded = passes_some p kept bytes t q 2 3 (omega arith) fit (loaded_passes p kept bytes r t q here whole m v cs loaded g framed)
      into v cs true out =
          let h = calls_into p kept bytes r t q here whole m v cs out g framed in
          let w = whole_then p kept bytes r t q here whole m AtCall g in
          let legal = alone_legal p kept bytes q.manager here.sound fit h.entry.overlay h.entry.code h.entry.found in
          let turn : Table = alone h.entry.overlay in
          let led : Managed = record q { process = h.u } in
          let follows = legal_follows p kept bytes t q h.u here w framed h.entry h.left h.set h.out (turn ∷ []) legal in
          record {
            taken = turn ∷ [];
            events = 3;
            few = omega arith;
            end = legal_end p kept bytes t q h.u here w framed h.entry h.left h.set h.out (turn ∷ []) legal;
            runs = λ later. (On led (turn ∷ later), alone_event bytes q (turn ∷ later) h.u h.alone, legal_runs p kept bytes t q h.u here w framed h.entry h.left h.set h.out (turn ∷ later) legal);
            seated = follows.0;
            fit = fit;
            matches = follows.1;
          }

      by : (cs : Segment) → t.cs ≡ cs → ComesBySome p kept bytes t q 3
      by (Image number) cs = passes_some p kept bytes t q 2 3 (omega arith) fit (refused_passes p kept bytes r t q here whole m number cs g framed)
      by (Overlay v) cs = into v cs (is_out (overlay_at (table_before q.manager) v)) refl

  pub step_turns : (service : Service) → Goes p r t service → FramedAfter p service t → ComesBySome p kept bytes t q 3
  step_turns NoService g framed = passes_some p kept bytes t q 1 3 (omega arith) fit (plain_passes p kept bytes r t q here whole m g)
  step_turns AtCall g framed = call_turns g framed
  step_turns AtReturn g framed = return_turns g framed
  step_turns AtClear g framed = passes_some p kept bytes t q 1 3 (omega arith) fit (clear_passes p kept bytes r t q here whole m g framed)
