-- A call through a stub while no overlay is installed: error 208.
use Rattle.std.proofs.Common.{◌≡◌, ℕ, zero, suc, ◌+◌, ◌*◌, ◌%◌, ◌≤◌, Bool, true, false, List, ◌++◌, length, Ok, arith, refl, sym, ap, subst, ◌∙◌}
use Rattle.std.specs.Prelude.{drop, IsTrue}
use Rattle.common_values.specs.behaviour.Seen.{Ended}
use Rattle.x86_table.specs.declared.instr.Instr.{Instr}
use Rattle.x86_table.specs.declared.instr.Instr.TheVariants as instr
use Rattle.x86_table.specs.Spelling.{spelling}
use Rattle.x86_table.specs.Standing.{IsSpelledAt, Stands}
use Rattle.flat_code.specs.declared.memory.Place.{Place}
use Rattle.flat_code.specs.Calls.{State, Over, spent, raised, error_text}
use Rattle.cpu_8086.specs.declared.registers.Registers.{Registers}
use Rattle.cpu_8086.specs.Access.{at_offset}
use Rattle.cpu_8086.specs.Effect.{act}
use Rattle.resident_machine.specs.Cells.{Known, known_then}
use Rattle.resident_machine.specs.Effect.{blurred, refused, refused_to, entered, far_call, called_to, on_cells, plain_effect}
use Rattle.resident_machine.specs.Framed.{IsFramed}
use Rattle.resident_machine.specs.Program.{Overlay, Program, image_target, far_target}
use Rattle.resident_machine.specs.State.{ResidentState, AtCall}
use Rattle.resident_machine.specs.machine_lines.Steps.{ReadsAbove, Owed, Moves, Leads}
use Rattle.resident_machine.proofs.machine_lines.Steps.{leads_on}
use Rattle.resident_machine.proofs.machine_lines.Straight.{plain_goes, standing, past_line, same_stack}
use Rattle.effect_simulation.specs.effects.Pushed.{Pushes}
use Rattle.code_templates.specs.code_lines.Lines.{Around, call_far}
use Rattle.statement_simulation.specs.expressions.Evaluates.{IsCode}
use Rattle.statement_simulation.specs.flow.Sites.{World, Site, Live, Fits, IsFlag, Represents}
use Rattle.statement_simulation.specs.flow.Outcomes.{budget, Flows, Errs, EndsErrors}
use Rattle.statement_simulation.proofs.flow.States.{budget_grows, flag_kept, fixed_kept}
use Rattle.call_simulation.specs.frames.Callee.{Back}
use Rattle.call_simulation.specs.frames.Chain.{IsChained}
use Rattle.call_simulation.specs.calls.Enters.{CallsTo, EntersAt}
use Rattle.call_simulation.proofs.calls.Entered.{pushed, pushed_room, owed_call}
use Rattle.call_simulation.proofs.calls.Far.{paired_cells, paired_other, flag_apart, entered_state, call_goes, far_state}
use Rattle.call_simulation.proofs.calls.Instructions.{far_tree}
use Rattle.call_simulation.proofs.calls.Near.{HasRoom}

-- IP, AX and CS are nothing that a framed state shows
refused_framed : (p : Program) (u : ResidentState) → IsFramed p true (blurred u) → IsFramed p true (blurred (refused p u))
refused_framed p u h = record {
  links = h.links;
  chain = h.chain;
  places = h.places;
  pending_room = h.pending_room;
  spare = λ k less. let z = h.spare k less in record { free = z.free; flag = z.flag; link = z.link };
}

module _ (w : World) (site : Site) (live : Live) (fits : Fits w site live) (s : State) (r : ResidentState) (a : Represents w live s r) (n k : ℕ) (vs : List ℕ) (b : Pushes w.machine w.framed site.segment n (site.at k) r vs) (place : Place) (number entry : ℕ) (enters : EntersAt w.machine place (Overlay number) entry) (room : 68 ≤ b.registers.sp) (chained : IsTrue w.framed → IsChained w live) (off : s.flag ≡ false) (named : IsCode w.machine (record { segment = w.machine.error_routine.segment; offset = w.machine.error_routine.offset })) where
  abbrev error : Place
  error = record { segment = w.machine.error_routine.segment; offset = w.machine.error_routine.offset }

  abbrev t : ResidentState
  t = pushed w live s r a site.segment n (site.at k) vs b

  h : HasRoom w.machine t 68
  h = pushed_room w live s r a site.segment n (site.at k) vs b 68 room

  abbrev g : Registers
  g = at_offset t.registers (site.at (k + 1))

  -- the state that the call would enter, and the error routine entered in its place
  abbrev u : ResidentState
  u = entered_state w.machine w.framed t h (site.at (k + 1)) (Overlay number) entry

  abbrev end : ResidentState
  end = blurred (refused w.machine u)

  abbrev back : Back
  back = record { segment = site.segment; offset = site.at (k + 1) }

  beside : CallsTo true back (Overlay number) entry t (blurred u)
  beside = far_state w.machine w.framed t h site.segment site.code site.at fits.placed k (Overlay number) entry b.here

  flag_off : t.cells w.machine.installed ≡ Known 0
  flag_off = b.bytes w.machine.installed (flag_kept w.machine.installed w.choice live.frame s.cells r.registers r.cells a.active) ∙ subst (λ flag. IsFlag flag (r.cells w.machine.installed)) off a.flag

  end_room : 64 ≤ end.registers.sp
  end_room = let sp = beside.sp in omega arith

  owed : Owed w.framed w.machine AtCall end
  owed = by w.framed (owed_call w live s r a site.segment n (site.at k) vs b site fits chained back (Overlay number) entry (blurred u) beside end_room)
    where
      by : (framed : Bool) → Owed framed w.machine AtCall (blurred u) → Owed framed w.machine AtCall end
      by true h = refused_framed w.machine u h
      by false h = tt

  refuses : called_to w.machine t g (paired_cells t.cells t.registers.ss t.registers.sp) (far_target w.machine place.segment place.offset) ≡ Ok (end, AtCall)
  refuses =
      let whole = paired_cells t.cells t.registers.ss t.registers.sp in
      let kept = paired_other w.machine w.framed t h w.machine.installed (flag_apart w.machine w.framed t h) in
      ap (λ target. called_to w.machine t g whole target) enters
      ∙ ap (λ x. known_then x (λ flag. entered w.machine u flag)) (kept ∙ flag_off)
      ∙ ap (λ o. refused_to w.machine u (image_target o w.machine.error_routine.segment w.machine.error_routine.offset)) named.1

  -- the event, whichever instruction comes to the far call
  refused_leads : (i : Instr) → IsSpelledAt site.code (site.at k) i → site.at (k + 1) ≡ site.at k + length (spelling i) → on_cells w.machine t (act g i) t.cells ≡ far_call w.machine t g t.cells (far_target w.machine place.segment place.offset) → ReadsAbove t.registers.ss t.registers.sp (act g i) t.cells → Leads w.machine w.framed 1 t end
  refused_leads i spelled size runs reads =
      let next = past_line site.segment site.at k i t b.here size (fits.placed.fits (k + 1)) in
      let effect : plain_effect w.machine t i ≡ Ok (end, AtCall) = ap (λ z. on_cells w.machine t (act z i) t.cells) next
      ∙ runs
      ∙ call_goes w.machine w.framed t h (site.at (k + 1)) (far_target w.machine place.segment place.offset)
      ∙ refuses in
      let same = beside.bytes w.machine.installed (λ low. flag_above low) in
      let moves : Moves w.machine w.framed t end = record {
        service = AtCall;
        goes = record { running = b.here.running; instruction = i; stands = standing w.machine site.segment site.code site.at k i t fits.placed b.here spelled; result = plain_goes w.machine t end AtCall i b.here.half effect same };
        owed = owed;
        above = subst (λ z. ReadsAbove t.registers.ss t.registers.sp (act z i) t.cells) (sym next) reads;
      } in
      (end, moves, refl)
    where
      flag_above : 16 * t.registers.ss ≤ w.machine.installed → 16 * t.registers.ss + t.registers.sp ≤ w.machine.installed
      flag_above low =
          let kept = flag_kept w.machine.installed w.choice live.frame s.cells r.registers r.cells a.active in
          let ss = b.ss in
          let sp = b.sp in
          let z = kept (omega arith) in
          omega arith

  errs : (left : ℕ) (m : ℕ) → Errs w live error 208 (record s { turns = left; work = s.work + m }) end
  errs left m =
      let sp0 = a.sp in
      let sp1 = b.sp in
      let sp2 = beside.sp in
      let top = a.active.top in
      let inside = a.active.inside in
      let ss0 = a.active.ss in
      let ss1 = b.ss in
      let ss2 = beside.ss in
      record {
        running = beside.here.running;
        half = beside.here.half;
        segment = refl;
        offset = refl;
        ax = refl;
        room = end_room;
        lower = omega arith;
        top = omega arith;
        inside = omega arith;
        ss = beside.ss ∙ b.ss ∙ a.active.ss;
        ds = beside.ds ∙ b.ds ∙ a.active.ds;
        direction = beside.direction ∙ b.direction ∙ a.direction;
        fixed = λ q byte known. let kept = fixed_kept w site live fits s r q byte a known in beside.bytes q (λ low. let z = kept (omega arith) in omega arith) ∙ b.bytes q kept ∙ a.fixed q byte known;
        unread = ap (λ i. drop i end.input) beside.taken ∙ ap (λ l. drop r.taken l) beside.input ∙ a.unread;
        read = subst (λ l. end.taken ≤ length l) (sym beside.input) (subst (λ i. i ≤ length r.input) (sym beside.taken) a.read);
        out = beside.out ∙ a.out;
        err = beside.err ∙ a.err;
      }

  -- error 208 ends the run, or is due
  pub refused_flows : (i : Instr) → IsSpelledAt site.code (site.at k) i → site.at (k + 1) ≡ site.at k + length (spelling i) → on_cells w.machine t (act g i) t.cells ≡ far_call w.machine t g t.cells (far_target w.machine place.segment place.offset) → ReadsAbove t.registers.ss t.registers.sp (act g i) t.cells → (around : Around) (m left ip : ℕ) → s.turns ≡ suc left → EndsErrors w live error → 1 ≤ m → n + 2 ≤ w.rate → Flows w site live around ip s r (raised 208 (record s { turns = left; work = s.work + m }))
  refused_flows i spelled size runs reads around m left ip turns ends some paid = by left refl
    where
      few : b.count + 1 + budget w s.work ≤ budget w (s.work + m)
      few = let x = b.few in let grown = budget_grows w s.work m (n + 2) paid some in omega arith

      reached : Leads w.machine w.framed (b.count + 1) r end
      reached = leads_on w.machine w.framed b.count 1 r t end b.leads (refused_leads i spelled size runs reads)

      by : (l : ℕ) → left ≡ l → Flows w site live around ip s r (spent l (record s { turns = left; work = s.work + m }) (λ s. Over (Ended (208 % 256)) (record s { err = s.err ++ error_text 208 })))
      by zero e =
          let z = errs left m in
          let f = few in
          record { count = b.count + 1; end = end; leads = reached; so = (omega (arith, turns, e), z.running); work = omega (arith, f); unread = z.unread; read = z.read; out = z.out; err = z.err; input = beside.input }
      by (suc l) e =
          let z = ends 208 (record s { turns = l; work = s.work + m }) end (omega arith) (errs l m) in
          let f = few in
          let work = z.work in
          record {
            count = b.count + 1 + z.count;
            end = z.end;
            leads = leads_on w.machine w.framed (b.count + 1) z.count r end z.end reached z.leads;
            so = z.so;
            work = omega (arith, f, work);
            unread = z.unread;
            read = z.read;
            out = z.out;
            err = z.err;
            input = z.input ∙ beside.input;
          }

  -- a far call of the routine's stub
  pub stub_refuses : Stands (IsSpelledAt site.code) site.at site.labels k (call_far place) → (around : Around) (m left ip : ℕ) → s.turns ≡ suc left → EndsErrors w live error → 1 ≤ m → n + 2 ≤ w.rate → Flows w site live around ip s r (raised 208 (record s { turns = left; work = s.work + m }))
  stub_refuses stands =
      refused_flows (instr.CallFar place.offset place.segment) stands.0.0 stands.0.1
      (ap (λ tree. on_cells w.machine t tree t.cells) (far_tree g place) ∙ same_stack t g (far_call w.machine t g t.cells (far_target w.machine place.segment place.offset)) refl)
      (subst (λ tree. ReadsAbove t.registers.ss t.registers.sp tree t.cells) (sym (far_tree g place)) tt)
