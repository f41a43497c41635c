-- A far return into an overlay is one event: into its code where it is loaded, else to the begin of its stub.
use Rattle.std.proofs.Common.{◌≡◌, ℕ, ◌==◌, Bool, true, false, List, ◌∷◌, Some, refl, sym, ap, ◌∙◌, subst, eq-eqb}
use Rattle.std.specs.Prelude.{if◌then◌else◌, slice_get}
use Rattle.cpu_8086.specs.declared.registers.Far.{Far}
use Rattle.cpu_8086.specs.Process.{Process}
use Rattle.overlay_manager.specs.Serves.{table_before}
use Rattle.overlay_manager.specs.overlay_run.Managed.{Managed}
use Rattle.resident_machine.specs.Program.{Segment, Image, Overlay, OverlayCode, Program}
use Rattle.resident_machine.specs.Framed.{IsFramed}
use Rattle.resident_machine.specs.Run.{Goes}
use Rattle.resident_machine.specs.Standing.{StandsFor}
use Rattle.resident_machine.specs.State.{Record, ResidentState, AtReturn}
use Rattle.resident_machine.specs.Whole.{IsNamed}
use Rattle.resident_machine.proofs.TreeLaws.{stands_blurred}
use Rattle.return_repair.specs.declared.table.Loaded.{Loaded}
use Rattle.return_repair.specs.Follows.{overlay_at, none_met, met_too, topmost_into}
use Rattle.return_repair.specs.Pairs.{is_out, shown_pair}
use Rattle.overlay_simulation.specs.Laid.{with_pairs}
use Rattle.overlay_simulation.specs.Matching.{HoldsOverlays, Matches, TellsApart}
use Rattle.overlay_simulation.specs.Plain.{GoesAlone}
use Rattle.overlay_simulation.specs.Shown.{at_pair, number_by, IsIn, items_of, shown_state}
use Rattle.overlay_simulation.specs.Trapping.{at_begin, AtBegin}
use Rattle.overlay_simulation.proofs.BeginLaws.{begun, begins, begins_so, begins_alone, overlays_begun, saved_begun, flag_begun, stands_whole}
use Rattle.overlay_simulation.proofs.EffectLaws.{effect_parts}
use Rattle.overlay_simulation.proofs.LeadLaws.{framed_spares, return_flag}
use Rattle.overlay_simulation.proofs.MirrorLaws.{bare, Returns}
use Rattle.overlay_simulation.proofs.OwnLaws.{unhalved}
use Rattle.overlay_simulation.proofs.ShownLaws.{HasOwnStubs, pair_in, past_in, topmost_in}
use Rattle.overlay_simulation.proofs.StepLaws.{none}
use Rattle.overlay_simulation.proofs.TableLaws.{stub_is, own_stubs, overlay_code}

-- control that stands where the pair of a loaded overlay leads stands where it returned
returned_in : (table : List Loaded) (own : HasOwnStubs table) (v : ℕ) (back : ResidentState) → back.cs ≡ Overlay v → is_out (overlay_at table v) ≡ false
    → at_pair (shown_pair (overlay_at table v) (none_met (overlay_at table v).stub) back.registers.ip) (shown_state table (met_too (overlay_at table v).stub none_met) back) ≡ shown_state table none_met back
returned_in table own v back cs loaded =
    let other : ResidentState = shown_state table (met_too (overlay_at table v).stub none_met) back in
    ap (λ (pair : Far). at_pair pair other) (pair_in table none_met (Overlay v) back.registers.ip loaded)
    ∙ ap (λ (segment : Segment). record other { cs = Image (number_by table segment) }) (sym cs)
    ∙ ap (λ (pairs : List Far). record (shown_state table none_met back) { records = with_pairs back.records pairs }) (past_in table none_met (Overlay v) (items_of back.records) own loaded)

pub loaded_return : (p : Program) (r t : ResidentState) (q : Managed) → TellsApart p (table_before q.manager) → Matches p r q → Goes p r t AtReturn → IsFramed p false t → IsIn (table_before q.manager) t.cs → (u : Process) × GoesAlone q.process u × Matches p t (record q { process = u })
loaded_return p r t q told m g framed here =
    let table = table_before q.manager in
    let own = own_stubs p table told in
    let flags : (there : ResidentState) → Returns table none_met r t there → there.cells p.installed ≡ t.cells p.installed = λ there. return_flag p table none_met r t there (framed_spares p false t framed) in
    let h = begins p r t AtReturn q told m g flags in
    let u : Process = begun p r t AtReturn q told m g flags in
    let l = h.leads in
    let cs : t.cs ≡ Overlay l.overlay = ap (λ (z : ResidentState). z.cs) l.left ∙ l.cs in
    let loaded : is_out (overlay_at table l.overlay) ≡ false = subst (IsIn table) cs here in
    let state = l.state ∙ returned_in table own l.overlay l.back l.cs loaded in
    let back = subst (λ (x : ResidentState). StandsFor (bare p none) x u) state h.stands in
    let lost = stands_blurred (bare p none) (shown_state table none_met l.back) u back in
    let stands = subst (λ (x : ResidentState). StandsFor (bare p none) (shown_state table none_met x) u) (sym l.left) lost in
    let x : Record = record { place = l.place; segment = Overlay l.overlay; offset = l.back.registers.ip } in (
      u,
      begins_alone p r t AtReturn q told m g flags (begins_so p r t AtReturn q told m g flags),
      record {
        stands = stands_whole p r t AtReturn q told m g flags (shown_state table none_met t) refl stands;
        here = here;
        overlays = overlays_begun p r t AtReturn q told m g flags none_met (λ v out unmet.
            ap (λ (z : ResidentState). topmost_into table (overlay_at table v).stub (items_of z.records)) l.left
            ∙ sym (topmost_in table x l.back.records own loaded v out)
            ∙ sym (ap (λ (xs : List Record). topmost_into table (overlay_at table v).stub (items_of xs)) l.taken));
        flag = flag_begun p r t AtReturn q told m g flags;
      },
    )

-- ## An overlay that is out

-- a pair of which none was met above stands at the begin of the stub
returned_out : (table : List Loaded) (o : OverlayCode) (v : ℕ) (back : ResidentState) → (overlay_at table v).stub ≡ o.stub → is_out (overlay_at table v) ≡ true
    → at_pair (shown_pair (overlay_at table v) (none_met (overlay_at table v).stub) back.registers.ip) (shown_state table (met_too (overlay_at table v).stub none_met) back) ≡ at_begin table o back
returned_out table o v back stub out =
    let pair : shown_pair (overlay_at table v) false back.registers.ip ≡ record { offset = 0; segment = (overlay_at table v).stub } = rw out refl in
    ap (λ (pair : Far). at_pair pair (shown_state table (met_too (overlay_at table v).stub none_met) back)) pair
    ∙ ap (λ (n : ℕ). at_pair (record { offset = 0; segment = n }) (shown_state table (met_too n none_met) back)) stub

-- of the stubs that were not met the topmost returns are those below
pub topmost_below : (table : List Loaded) (v w offset : ℕ) (records : List Record) (place : ℕ) → met_too (overlay_at table v).stub none_met (overlay_at table w).stub ≡ false
    → topmost_into table (overlay_at table w).stub (items_of records) ≡ topmost_into table (overlay_at table w).stub (items_of (record { place = place; segment = Overlay v; offset = offset } ∷ records))
topmost_below table v w offset records place unmet = by ((overlay_at table w).stub == (overlay_at table v).stub) unmet
  where
    by : (b : Bool) → (if b then true else false) ≡ false → topmost_into table (overlay_at table w).stub (items_of records) ≡ (if b then Some offset else topmost_into table (overlay_at table w).stub (items_of records))
    by true unmet = absurd (cc)
    by false unmet = refl

pub out_return : (p : Program) (r t : ResidentState) (q : Managed) (v : ℕ) → TellsApart p (table_before q.manager) → Matches p r q → Goes p r t AtReturn → IsFramed p false t → t.cs ≡ Overlay v → is_out (overlay_at (table_before q.manager) v) ≡ true → IsNamed p (Overlay v)
    → (u : Process) × GoesAlone q.process u × AtBegin p t q u
out_return p r t q v told m g framed cs out named =
    let table = table_before q.manager in
    let flags : (there : ResidentState) → Returns table none_met r t there → there.cells p.installed ≡ t.cells p.installed = λ there. return_flag p table none_met r t there (framed_spares p false t framed) in
    let h = begins p r t AtReturn q told m g flags in
    let u : Process = begun p r t AtReturn q told m g flags in
    let l = h.leads in
    let both : Overlay l.overlay ≡ Overlay v = sym (ap (λ (z : ResidentState). z.cs) l.left ∙ l.cs) ∙ cs in
    let number : l.overlay ≡ v = cc in
    let o = overlay_code p.overlays v named.0 named.1 in
    let found : slice_get p.overlays l.overlay ≡ Some o.0 = ap (slice_get p.overlays) number ∙ o.1 in
    let stub : (overlay_at table l.overlay).stub ≡ o.0.stub = stub_is p table told l.overlay o.0 found in
    let is : is_out (overlay_at table l.overlay) ≡ true = ap (λ (n : ℕ). is_out (overlay_at table n)) number ∙ out in
    let state = l.state ∙ returned_out table o.0 l.overlay l.back stub is in
    let back = subst (λ (x : ResidentState). StandsFor (bare p none) x u) state h.stands in
    let lost = stands_blurred (bare p none) (at_begin table o.0 l.back) u back in
    let stands = subst (λ (x : ResidentState). StandsFor (bare p none) (at_begin table o.0 x) u) (sym l.left) lost in
    let x : Record = record { place = l.place; segment = Overlay l.overlay; offset = l.back.registers.ip } in
    let here : ((overlay_at table l.overlay).stub == (overlay_at table l.overlay).stub) ≡ true = eq-eqb (overlay_at table l.overlay).stub (overlay_at table l.overlay).stub refl in
    let topmost : topmost_into table (overlay_at table l.overlay).stub (items_of (x ∷ l.back.records)) ≡ Some l.back.registers.ip = rw here refl in
    let saved_before = m.overlays.saved l.overlay o.0 l.back.registers.ip found is refl
    (ap (λ (n : ℕ). topmost_into table n (items_of r.records)) (sym stub) ∙ (ap (λ (xs : List Record). topmost_into table (overlay_at table l.overlay).stub (items_of xs)) l.taken ∙ topmost)) in (
      u,
      begins_alone p r t AtReturn q told m g flags (begins_so p r t AtReturn q told m g flags),
      record {
        overlay = v;
        code = o.0;
        found = o.1;
        cs = cs;
        running = ap (λ (z : ResidentState). z.status) l.left ∙ l.status ∙ g.running;
        half = ap (λ (z : ResidentState). z.half) l.left ∙ l.half ∙ unhalved p r t AtReturn g.instruction (effect_parts p r g.instruction (t, AtReturn) g.result).0 (λ same. absurd (cc));
        stands = stands_whole p r t AtReturn q told m g flags (at_begin table o.0 t) refl stands;
        saved = saved_begun p r t AtReturn q told m g flags l.overlay o.0 found ∙ saved_before ∙ sym (ap (λ (z : ResidentState). z.registers.ip) l.left);
        overlays = subst (λ (n : ℕ). HoldsOverlays p q.manager (met_too n none_met) t.cells t.records u.machine.memory) stub
            (overlays_begun p r t AtReturn q told m g flags (met_too (overlay_at table l.overlay).stub none_met) (λ w none unmet.
            ap (λ (z : ResidentState). topmost_into table (overlay_at table w).stub (items_of z.records)) l.left
            ∙ topmost_below table l.overlay w l.back.registers.ip l.back.records l.place unmet
            ∙ sym (ap (λ (xs : List Record). topmost_into table (overlay_at table w).stub (items_of xs)) l.taken)));
        unset = flag_begun p r t AtReturn q told m g flags;
      },
    )
