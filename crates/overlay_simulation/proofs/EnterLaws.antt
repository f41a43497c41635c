-- A call through a stub, up to the stub's entry; and the entry of an overlay that is loaded, which jumps to the routine.
use Rattle.std.proofs.Common.{◌≡◌, ℕ, ◌==◌, ◌&&◌, not, Bool, true, false, List, [], ◌++◌, drop, Some, Ok, refl, sym, ap, ◌∙◌, subst}
use Rattle.std.specs.Prelude.{if◌then◌else◌, slice_index, slice_get}
use Rattle.std.proofs.lemmas.Option.{get_or_from_slice_get, slice_get_within}
use Rattle.x86_table.specs.declared.instr.Instr.{Instr}
use Rattle.x86_table.specs.declared.instr.Instr.TheVariants as instr
use Rattle.x86_table.specs.Spelling.{spelling}
use Rattle.cpu_8086.specs.Access.{at_offset}
use Rattle.cpu_8086.specs.Effect.{act}
use Rattle.cpu_8086.specs.Process.{Process, after_step}
use Rattle.cpu_8086.specs.State.{State}
use Rattle.cpu_8086.specs.Step.{past, effect}
use Rattle.overlay_file.specs.Stubs.{entry_offset}
use Rattle.overlay_manager.specs.Manager.{next_stub}
use Rattle.overlay_manager.specs.Serves.{table_before}
use Rattle.overlay_manager.specs.overlay_run.Managed.{Managed}
use Rattle.resident_machine.specs.Program.{Segment, Image, Overlay, OverlayCode, Program, code_of, stub_owner}
use Rattle.resident_machine.specs.Cells.{Cell, Known}
use Rattle.resident_machine.specs.Dos.{plainly}
use Rattle.resident_machine.specs.Effect.{blurred, refused, is_zero, effect_of, plain_effect, completed}
use Rattle.resident_machine.specs.Framed.{IsFramed}
use Rattle.resident_machine.specs.Run.{Goes}
use Rattle.resident_machine.specs.Standing.{HoldsCode, StandsFor}
use Rattle.resident_machine.specs.State.{Record, ResidentState, NoService, AtCall}
use Rattle.resident_machine.proofs.TreeLaws.{stands_blurred}
use Rattle.return_repair.specs.declared.table.Loaded.{Loaded}
use Rattle.return_repair.specs.Follows.{overlay_at, none_met, topmost_into}
use Rattle.return_repair.specs.Pairs.{is_out}
use Rattle.overlay_simulation.specs.Laid.{status_by}
use Rattle.overlay_simulation.specs.Matching.{size_of, StubStands, HoldsOverlays, Matches, TellsApart}
use Rattle.overlay_simulation.specs.Plain.{IsOwn, GoesAlone}
use Rattle.overlay_simulation.specs.Shown.{at_pair, number_by, IsIn, items_of, shown_state}
use Rattle.overlay_simulation.specs.Trapping.{at_entry, AtEntry}
use Rattle.overlay_simulation.proofs.BeginLaws.{begun, begins, begins_so, begins_alone, overlays_begun, flag_begun, stands_whole}
use Rattle.overlay_simulation.proofs.EffectLaws.{is_uninstalled, effect_parts, effect_whole}
use Rattle.overlay_simulation.proofs.EntryLaws.{jumps}
use Rattle.overlay_simulation.proofs.KeepLaws.{Stay, overlays_stay}
use Rattle.overlay_simulation.proofs.LeadLaws.{called_cells, framed_spares, call_flag}
use Rattle.overlay_simulation.proofs.MirrorLaws.{bare, Enters, stack_goes}
use Rattle.overlay_simulation.proofs.OwnLaws.{unhalved}
use Rattle.overlay_simulation.proofs.StepLaws.{none, IsAt, Comes, stays, stands_there, stands_by, stands_bare, alone}
use Rattle.overlay_simulation.proofs.StubLaws.{bytes_from, stands_kept, stub_room}
use Rattle.overlay_simulation.proofs.TargetLaws.{leads_through}

-- ## A far jump

jump_own : (s : State) (offset segment : ℕ) → IsOwn (effect s (instr.JumpFar offset segment)).1
unfolding effect act
jump_own s offset segment = tt

unchanged : (c : Cell) → is_uninstalled c c ≡ false
unchanged c = by (is_zero c)
  where
    by : (x : Bool) → (not x && x) ≡ false
    by true = refl
    by false = refl

-- where each segment names code
jump_goes : (p : Program) (bytes : ℕ → List ℕ) (x : ResidentState) (offset segment : ℕ) → x.half ≡ false → effect_of (bare p bytes) x (instr.JumpFar offset segment) ≡ Ok (record x { registers = at_offset x.registers offset; cs = Image segment }, NoService)
unfolding act
jump_goes p bytes x offset segment half =
    let i : Instr = instr.JumpFar offset segment in
    let y : ResidentState = record x { registers = at_offset x.registers offset; cs = Image segment } in
    let goes : plain_effect (bare p bytes) x i ≡ Ok (y, NoService) = stack_goes x (past i x.registers) (plainly y) (y, NoService) refl refl in
    effect_whole (bare p bytes) x i (y, NoService) (ap (λ (b : Bool). if b then completed (bare p bytes) x i else plain_effect (bare p bytes) x i) half ∙ goes) (unchanged (x.cells p.installed))

-- ## The entry that was called

left_records : (p : Program) (t through : ResidentState) (b : Bool) → t ≡ blurred (if b then refused p through else through) → t.records ≡ through.records
left_records p t through true e = ap (λ (z : ResidentState). z.records) e
left_records p t through false e = ap (λ (z : ResidentState). z.records) e

pub enters : (p : Program) (r t : ResidentState) (q : Managed) → TellsApart p (table_before q.manager) → Matches p r q → Goes p r t AtCall → IsFramed p true t → (u : Process) × GoesAlone q.process u × AtEntry p t q u
enters p r t q told m g framed =
    let table = table_before q.manager in
    let flags : (there : ResidentState) → Enters p table none_met r t there → there.cells p.installed ≡ t.cells p.installed = λ there. call_flag p table none_met r t there (framed_spares p true t framed) in
    let h = begins p r t AtCall q told m g flags in
    let u : Process = begun p r t AtCall q told m g flags in
    let l = h.leads in
    let e = leads_through p l.segment l.entry l.overlay l.through.registers.ip l.leads in
    let half = l.half ∙ unhalved p r t AtCall g.instruction (effect_parts p r g.instruction (t, AtCall) g.result).0 (λ same. absurd (cc)) in
    let at : StandsFor (bare p none) (at_pair (record { offset = l.entry; segment = l.segment }) (shown_state table none_met l.through)) u = subst (λ (x : ResidentState). StandsFor (bare p none) x u) l.state h.stands in
    let here = subst (λ (n : ℕ). StandsFor (bare p none) (at_pair (record { offset = n; segment = e.code.stub }) (shown_state table none_met l.through)) u) e.place
    (subst (λ (n : ℕ). StandsFor (bare p none) (at_pair (record { offset = l.entry; segment = n }) (shown_state table none_met l.through)) u) (sym e.stub) at) in (
      u,
      begins_alone p r t AtCall q told m g flags (begins_so p r t AtCall q told m g flags),
      record {
        through = l.through;
        overlay = l.overlay;
        code = e.code;
        found = e.found;
        entry = e.number;
        owner = ap (stub_owner p) e.stub ∙ e.owner;
        leads = e.leads;
        cs = l.cs;
        running = l.status ∙ g.running;
        half = half;
        flag = l.flag;
        known = l.known;
        left = l.left;
        stands = stands_whole p r t AtCall q told m g flags (at_entry table e.code e.number (blurred l.through)) (sym (called_cells p t l.through (l.flag == 0) l.left))
            (stands_blurred (bare p none) (at_entry table e.code e.number l.through) u here);
        overlays = overlays_begun p r t AtCall q told m g flags none_met (λ v out unmet.
            ap (λ (xs : List Record). topmost_into table (overlay_at table v).stub (items_of xs)) (left_records p t l.through (l.flag == 0) l.left) ∙ l.topmost v out);
        same_flag = sym (ap (λ (z : ResidentState). z.cells p.installed) l.state) ∙ flags h.there l;
        unset = flag_begun p r t AtCall q told m g flags;
      },
    )

-- ## An overlay that is loaded

module _ (p : Program) (t : ResidentState) (q : Managed) (u : Process) (told : TellsApart p (table_before q.manager)) (h : AtEntry p t q u) (left : t ≡ blurred h.through) (loaded : is_out (overlay_at (table_before q.manager) h.overlay) ≡ false) where
  abbrev table : List Loaded
  table = table_before q.manager

  abbrev memory : List ℕ
  memory = u.machine.memory

  abbrev back : ResidentState
  back = blurred h.through

  abbrev load : ℕ
  load = (overlay_at table h.overlay).load

  abbrev routine : ℕ
  routine = slice_index h.code.entries h.entry

  overlays : HoldsOverlays p q.manager none_met back.cells back.records memory
  overlays = subst (λ (z : ResidentState). HoldsOverlays p q.manager none_met z.cells z.records memory) left h.overlays

  abbrev x : ResidentState
  x = at_entry table h.code h.entry back

  abbrev y : ResidentState
  y = record x { registers = at_offset x.registers routine; cs = Image load }

  abbrev stub_bytes : List ℕ
  stub_bytes = bytes_from memory h.code.stub 0 (size_of h.code)

  stub : StubStands back.cells memory h.code load (next_stub q.manager.stubs q.manager.ring.seats h.overlay)
  stub = overlays.stubs h.overlay h.code h.found

  jump : (rest : List ℕ) × (drop (entry_offset h.entry) stub_bytes ≡ spelling (instr.JumpFar routine load) ++ rest)
  jump = jumps back.cells memory h.code load (next_stub q.manager.stubs q.manager.ring.seats h.overlay) stub h.entry (slice_get_within h.code.entries h.entry h.through.registers.ip h.leads) loaded

  abbrev at : IsAt p x u (instr.JumpFar routine load)
  at = record {
    segment = h.code.stub;
    cs = refl;
    running = ap (status_by (number_by table)) h.running;
    stands = stands_bare p p x u h.stands;
    code = stub_bytes;
    held = stands_kept back.cells memory h.code.stub (size_of h.code) (stub_room back.cells memory h.code load (next_stub q.manager.stubs q.manager.ring.seats h.overlay) stub) stub.kept;
    rest = jump.0;
    spelled = jump.1;
  }

  abbrev comes : (bytes : ℕ → List ℕ) → Comes p x (instr.JumpFar routine load) back.cells bytes
  comes bytes = record { there = y; follows = NoService; result = jump_goes p bytes x routine load h.half; keeps = λ place kept. kept }

  abbrev pub jumped : Process
  jumped = after_step u (effect u.machine (instr.JumpFar routine load)).0 (effect u.machine (instr.JumpFar routine load)).1

  stay : Stay p table back.cells back.cells memory jumped.machine.memory
  stay = record { code = code; stub = bytes }
    where
      stays_here : (b : ℕ) (other : List ℕ) → (b ≡ h.code.stub → other ≡ stub_bytes) → HoldsCode back.cells memory b other → HoldsCode back.cells jumped.machine.memory b other
      stays_here b other same held = stays p x u (instr.JumpFar routine load) at back.cells comes b other same held

      code : (s : Segment) (code : List ℕ) → code_of p s ≡ Some code → IsIn table s → HoldsCode back.cells memory (number_by table s) code → HoldsCode back.cells jumped.machine.memory (number_by table s) code
      code s other named here held = stays_here (number_by table s) other (λ same. absurd (told.others h.overlay h.code s h.found (other, named) here (sym same))) held

      bytes : (v : ℕ) (o : OverlayCode) → slice_get p.overlays v ≡ Some o → HoldsCode back.cells memory o.stub (bytes_from memory o.stub 0 (size_of o)) → HoldsCode back.cells jumped.machine.memory o.stub (bytes_from memory o.stub 0 (size_of o))
      bytes v o found held = stays_here o.stub (bytes_from memory o.stub 0 (size_of o)) same held
        where
          same : o.stub ≡ h.code.stub → bytes_from memory o.stub 0 (size_of o) ≡ stub_bytes
          same at =
              let number = told.stubs v h.overlay o h.code found h.found at in
              let both : Some o ≡ Some h.code = sym found ∙ ap (slice_get p.overlays) number ∙ h.found in
              let is : o ≡ h.code = cc in
              ap (λ (z : OverlayCode). bytes_from memory z.stub 0 (size_of z)) is

  arrives : y ≡ shown_state table none_met back
  arrives =
      let same : routine ≡ h.through.registers.ip = get_or_from_slice_get h.code.entries h.entry h.through.registers.ip 0 h.leads in
      ap (λ (n : ℕ). record x { registers = at_offset x.registers n; cs = Image load }) same
      ∙ ap (λ (s : Segment). record (shown_state table none_met back) { cs = Image (number_by table s) }) (sym h.cs)

  arrived : Matches p back (record q { process = jumped })
  arrived =
      let there = subst (λ (z : ResidentState). StandsFor (bare p none) z jumped) arrives (stands_there p x u (instr.JumpFar routine load) at back.cells comes) in
      record {
        stands = stands_by (bare p none) p (shown_state table none_met back) jumped there (λ segment code named. stay.code (Image segment) code named tt (h.stands.memory.code segment code named));
        here = subst (IsIn table) (sym h.cs) loaded;
        overlays = overlays_stay p q.manager told none_met none_met back.cells back.cells back.records back.records memory jumped.machine.memory overlays stay (λ stub new. new) (λ v out unmet. refl);
        flag = subst (λ (z : ResidentState). z.cells p.installed ≡ Known 0 → q.manager.ring.seats ≡ []) left h.unset;
      }

  pub jumps_alone : GoesAlone u jumped
  jumps_alone = alone p x u (instr.JumpFar routine load) at (jump_own u.machine routine load)

  pub jumps_match : Matches p t (record q { process = jumped })
  jumps_match = subst (λ (z : ResidentState). Matches p z (record q { process = jumped })) (sym left) arrived

-- where CS names the overlay the call was not refused
pub not_refused : (p : Program) (t through : ResidentState) (v : ℕ) (b : Bool) → t.cs ≡ Overlay v → t ≡ blurred (if b then refused p through else through) → t ≡ blurred through
not_refused p t through v true cs left = let e : Image p.error_routine.segment ≡ Overlay v = sym (ap (λ (z : ResidentState). z.cs) left) ∙ cs in absurd (cc)
not_refused p t through v false cs left = left

-- a call into an overlay that is loaded is two events
pub loaded_call : (p : Program) (r t : ResidentState) (q : Managed) (v : ℕ) → TellsApart p (table_before q.manager) → Matches p r q → Goes p r t AtCall → IsFramed p true t → t.cs ≡ Overlay v → is_out (overlay_at (table_before q.manager) v) ≡ false
    → (u : Process) × (w : Process) × GoesAlone q.process u × GoesAlone u w × Matches p t (record q { process = w })
loaded_call p r t q v told m g framed cs loaded =
    let first = enters p r t q told m g framed in
    let h = first.2 in
    let left = not_refused p t h.through v (h.flag == 0) cs h.left in
    let same : Overlay h.overlay ≡ Overlay v = sym h.cs ∙ sym (ap (λ (z : ResidentState). z.cs) left) ∙ cs in
    let number : h.overlay ≡ v = cc in
    let in_memory : is_out (overlay_at (table_before q.manager) h.overlay) ≡ false = ap (λ (n : ℕ). is_out (overlay_at (table_before q.manager) n)) number ∙ loaded in
    (first.0, jumped p t q first.0 told h left in_memory, first.1, jumps_alone p t q first.0 told h left in_memory, jumps_match p t q first.0 told h left in_memory)
