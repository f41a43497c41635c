-- A call through a stub while no overlay is installed comes to the error routine.
use Rattle.std.proofs.Common.{◌≡◌, ℕ, zero, suc, ◌+◌, ◌-◌, ◌==◌, Bool, true, false, List, [], ◌∷◌, Option, MatchResult, Some, refl, sym, ap, ◌∙◌, subst, eq-eqb, eqb-true, MatchBool}
use Rattle.std.specs.Prelude.{if◌then◌else◌, slice_index}
use Rattle.cpu_8086.specs.declared.process.Why.TheVariants as why
use Rattle.cpu_8086.specs.declared.machine.Event.TheVariants as events
use Rattle.cpu_8086.specs.declared.registers.Far.{Far}
use Rattle.cpu_8086.specs.declared.registers.Registers.{Registers}
use Rattle.cpu_8086.specs.Memory.{address, load_byte}
use Rattle.cpu_8086.specs.Process as process
use Rattle.cpu_8086.specs.Process.{Process}
use Rattle.cpu_8086.specs.Step.{Steps}
use Rattle.overlay_manager.specs.declared.traps.Trap.{Trap}
use Rattle.overlay_manager.specs.Manager.{Manager, table_from, table_by}
use Rattle.overlay_manager.specs.Serves.{table_before}
use Rattle.overlay_manager.specs.Traps as manager
use Rattle.overlay_manager.specs.Traps.{trap_of, is_refused}
use Rattle.overlay_manager.specs.overlay_run.Managed.{Managed, goes_on, is_stopped, with_trap, IsTrappedIn, IsLoaded, ManagedGoes}
use Rattle.resident_machine.specs.Program.{Image, Overlay, Program}
use Rattle.resident_machine.specs.Cells.{Known, Cells}
use Rattle.resident_machine.specs.Effect.{blurred, refused}
use Rattle.resident_machine.specs.Framed.{IsFramed}
use Rattle.resident_machine.specs.Run.{Goes}
use Rattle.resident_machine.specs.Standing.{number_of, PairWord, words_of, with_half, HoldsMemory, StandsFor}
use Rattle.resident_machine.specs.State.{ResidentState, AtCall}
use Rattle.return_repair.specs.declared.table.Loaded.{Loaded}
use Rattle.return_repair.specs.Chain.{chain_of}
use Rattle.return_repair.specs.Follows.{overlay_at, none_met}
use Rattle.return_repair.specs.Pairs.{is_out}
use Rattle.overlay_simulation.specs.Managing.{Manages}
use Rattle.overlay_simulation.specs.Matching.{Matches, TellsApart}
use Rattle.overlay_simulation.specs.Plain.{GoesAlone}
use Rattle.overlay_simulation.specs.Shown.{IsIn, shown_state}
use Rattle.overlay_simulation.specs.Trapping.{at_entry, AtEntry}
use Rattle.overlay_simulation.proofs.EnterLaws.{enters}
use Rattle.overlay_simulation.proofs.TrapLaws.{past_trap, call_runs, call_steps, call_trap}
use Rattle.overlay_simulation.proofs.StepLaws.{none, running}

-- ## No overlay is loaded

out_from : (room u : ℕ) (stubs : List ℕ) (v : ℕ) → (overlay_at (table_from room [] u stubs) v).load ≡ 0
out_from room u [] v = refl
out_from room u (stub ∷ stubs) zero = refl
out_from room u (stub ∷ stubs) (suc v) = out_from room (u + 1) stubs v

pub all_out : (m : Manager) → m.ring.seats ≡ [] → (v : ℕ) → (overlay_at (table_before m) v).load ≡ 0
all_out m empty v = ap (λ seats. (overlay_at (table_by m seats) v).load) empty ∙ out_from m.ring.room 0 m.stubs v

-- ## The refusal

unhalved_words : (p : Program) (ss sp n k : ℕ) (half : Bool) (cells : Cells) (memory : List ℕ) (ws : List PairWord) → half ≡ false → HoldsMemory p ss cells memory (with_half half sp n ws) → HoldsMemory p ss cells memory (with_half half sp k ws)
unhalved_words p ss sp n k true cells memory ws whole h = absurd (cc)
unhalved_words p ss sp n k false cells memory ws whole h = h

module _ (p : Program) (t : ResidentState) (q : Managed) (u : Process) (bytes : List ℕ) (manages : Manages p q.manager) (told : TellsApart p (table_before q.manager)) (h : AtEntry p t q u) (left : t ≡ blurred (refused p h.through)) (zero_flag : h.flag ≡ 0) where
  abbrev table : List Loaded
  table = table_before q.manager

  abbrev memory : List ℕ
  memory = u.machine.memory

  abbrev back : ResidentState
  back = blurred h.through

  abbrev x : ResidentState
  x = at_entry table h.code h.entry back

  known : t.cells p.installed ≡ Known 0
  known = sym h.same_flag ∙ h.known ∙ ap Known zero_flag

  unset : q.manager.ring.seats ≡ []
  unset = h.unset known

  out : is_out (overlay_at table h.overlay) ≡ true
  out = eq-eqb (overlay_at table h.overlay).load 0 (all_out q.manager unset h.overlay)

  -- what control then is
  abbrev called : Managed
  called = record q { process = u }

  abbrev pub sent : Managed
  sent = with_trap (goes_on called (manager.refused q.manager.error_routine (past_trap u)) q.manager)

  abbrev trap : Trap
  trap = record { overlay = h.overlay; call = true }

  pub trap_found : trap_of q.manager.stubs (past_trap u) ≡ Some trap
  trap_found = call_trap p t q u manages h out

  pub steps_there : (u.status ≡ process.Running) × Steps u.machine (past_trap u) (events.Service 63)
  steps_there = (call_runs p t q u manages h out, call_steps p t q u manages h out)

  pub is_refused_there : is_refused q.manager.installed (past_trap u) trap ≡ true
  unfolding load_byte
  is_refused_there =
      let byte : slice_index memory p.installed ≡ 0 = h.stands.memory.known p.installed 0 (ap (λ (z : ResidentState). z.cells p.installed) (sym left) ∙ known) in
      let there : slice_index memory (address q.manager.installed.segment q.manager.installed.offset) ≡ 0 = ap (slice_index memory) manages.installed ∙ byte in
      eq-eqb (slice_index memory (address q.manager.installed.segment q.manager.installed.offset)) 0 there

  pub refuses : ManagedGoes bytes called sent
  refuses = record {
    running = steps_there.0;
    machine = past_trap u;
    event = events.Service 63;
    steps = steps_there.1;
    result = subst (λ (o : Option Trap). IsTrappedIn bytes called (past_trap u) sent o) (sym trap_found)
        (subst (λ (b : Bool). MatchBool b (sent ≡ with_trap (goes_on called (manager.refused q.manager.error_routine (past_trap u)) q.manager))
        (MatchResult (chain_of q.manager.marked (past_trap u)) (λ links. IsLoaded bytes called (past_trap u) trap sent) (λ bad. sent ≡ is_stopped called (why.BadChain bad) q.manager))) (sym is_refused_there) refl);
  }

  -- where it goes on
  abbrev end : ResidentState
  end = blurred (refused p h.through)

  stands_sent : StandsFor p (shown_state table none_met end) sent.process
  stands_sent =
      let s = h.stands in
      let error : Far = p.error_routine in
      record {
        registers = ap (λ (g : Registers). record g { ip = q.manager.error_routine.offset; ax = 208 }) s.registers ∙ ap (λ (z : Far). record h.through.registers { ip = z.offset; ax = 208 }) manages.error_routine;
        cs = ap (λ (z : Far). z.segment) manages.error_routine;
        memory = unhalved_words p end.registers.ss end.registers.sp (number_of x.cs) (number_of (Image error.segment)) end.half end.cells memory (words_of (shown_state table none_met end).records) h.half
            s.memory;
        input = s.input;
        taken = s.taken;
        out = s.out;
        err = s.err;
        status = s.status;
      }

  pub matches_sent : Matches p t sent
  matches_sent = record {
    stands = subst (λ (z : ResidentState). StandsFor p (shown_state table none_met z) sent.process) (sym left) stands_sent;
    here = subst (λ (z : ResidentState). IsIn table z.cs) (sym left) tt;
    overlays = h.overlays;
    flag = λ none. unset;
  }

-- where CS names code of the image the call was refused
pub was_refused : (p : Program) (t through : ResidentState) (v number flag : ℕ) → through.cs ≡ Overlay v → t.cs ≡ Image number → t ≡ blurred (if flag == 0 then refused p through else through) → (flag ≡ 0) × (t ≡ blurred (refused p through))
was_refused p t through v number flag cs image left = by (flag == 0) refl left
  where
    by : (b : Bool) → (flag == 0) ≡ b → t ≡ blurred (if b then refused p through else through) → (flag ≡ 0) × (t ≡ blurred (refused p through))
    by true none left = (eqb-true flag 0 none, left)
    by false some left = let e : Image number ≡ Overlay v = sym image ∙ ap (λ (z : ResidentState). z.cs) left ∙ cs in absurd (cc)

-- a call that is refused is two events, the second a trap
pub refused_call : (bytes : List ℕ) (p : Program) (r t : ResidentState) (q : Managed) (number : ℕ) → Manages p q.manager → TellsApart p (table_before q.manager) → Matches p r q → Goes p r t AtCall → IsFramed p true t → t.cs ≡ Image number
    → (u : Process) × (w : Managed) × GoesAlone q.process u × ManagedGoes bytes (record q { process = u }) w × Matches p t w
refused_call bytes p r t q number manages told m g framed cs =
    let first = enters p r t q told m g framed in
    let h = first.2 in
    let is = was_refused p t h.through h.overlay number h.flag h.cs cs h.left in
    (first.0, sent p t q first.0 bytes manages told h is.1 is.0, first.1, refuses p t q first.0 bytes manages told h is.1 is.0, matches_sent p t q first.0 bytes manages told h is.1 is.0)
