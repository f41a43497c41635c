-- Programs without overlaid units.
use Rattle.std.proofs.Common.{◌≡◌, ℕ, zero, suc, ◌-◌, ◌≤◌, Bool, false, List, [], length, map, Option, unwrap_or, refl, sym, ap, ◌∙◌, subst}
use Rattle.std.specs.Prelude.{◌⊎◌}
use Rattle.common_values.specs.behaviour.Seen.{Standing, Ended, Seen, Stands, Shows, Begins, IsOver, IsUndefined, IsRun}
use Rattle.typed_tree.specs.declared.units.Program.{Program}
use Rattle.tp_meaning.specs.Meaning.{mean, IsNeverStopped}
use Rattle.cpu_8086.specs.Process.{Process}
use Rattle.cpu_8086.specs.Run as cpu
use Rattle.cpu_8086.specs.State.{State}
use Rattle.mz_file.specs.Format.{exe_of}
use Rattle.mz_file.specs.Load.{loaded, loaded_segment, started}
use Rattle.overlay_manager.specs.Manager.{Manager}
use Rattle.overlay_manager.specs.overlay_run.Managed.{Managed, ManagedRuns}
use Rattle.resident_machine.specs.Program as resident
use Rattle.resident_machine.specs.Run as resident_run
use Rattle.resident_machine.specs.Standing.{StandsFor, status_of}
use Rattle.resident_machine.specs.State as resident_state
use Rattle.resident_machine.specs.State.{ResidentState, ResidentStatus}
use Rattle.resident_machine.specs.machine_lines.Steps.{Leads}
use Rattle.statement_simulation.specs.flow.Sites.{AreBytes}
use Rattle.code_simulation.specs.start.Shown as resident_seen
use Rattle.dos_runner.specs.opened_program.Opening.{IsOpened, start_manager}
use Rattle.dos_runner.specs.plain_opening.Laws.{PlainOpening}
use Rattle.compiler_correctness.specs.Runs.{standing_of, shown, begun, IsPaid}
use Rattle.compiler_correctness.specs.Hypotheses.{IsBuiltPlain, plain_rate}
use Rattle.compiler_correctness.specs.Correct.{IsDefined, ShowsPlain, FollowsPlain, IsCorrectPlain}
use Rattle.compiler_correctness.proofs.Events.{Events, IsDetermined, IsLast, events_rest, events_last, events_same, events_keep}
use Rattle.compiler_correctness.proofs.Written.{Extends, extends_same, extends_both, step_extends}
use Rattle.compiler_correctness.proofs.Backward.{AreOfOneRun, over_back, written_back, stopped_back, ended_back, one_back, going_back, going_or_over, all_bytes, seen_same}
use Rattle.compiler_correctness.proofs.Chain.{StartLaw, ShowsResident, resident_shows}
use Rattle.compiler_correctness.proofs.Tabled.{not_running}

-- ---- the laws below

abbrev pub ResidentLaw : Type 0
ResidentLaw = (p : resident.Program) (n : ℕ) (r t : ResidentState) (q : Process) → p.overlays ≡ [] → StandsFor p r q → resident_run.Runs p n r t → (u : Process) × cpu.Runs n q u × StandsFor p t u

abbrev pub LeadsRun : Type 0
LeadsRun = (p : resident.Program) (framed : Bool) (n : ℕ) (r t : ResidentState) → Leads p framed n r t → resident_run.Runs p n r t

-- a step of a process has one outcome
abbrev pub GoesOnce : Type 0
GoesOnce = (n : ℕ) (p q r : Process) → cpu.Runs n p q → cpu.Runs n p r → q ≡ r

-- what the process of a program without stubs does is what the program does
pub record PlainRuns : Type 0 where
  pub only : (bytes : List ℕ) (n : ℕ) (p q : Managed) → length p.manager.stubs ≡ 0 → ManagedRuns bytes n p q → cpu.Runs n p.process q.process
  pub all : (bytes : List ℕ) (n : ℕ) (p : Managed) (q : Process) → length p.manager.stubs ≡ 0 → cpu.Runs n p.process q → (managed : Managed) × ManagedRuns bytes n p managed × (managed.process ≡ q)

pub record LawsBelow : Type 0 where
  pub start : StartLaw
  pub leads : LeadsRun
  pub alike : ResidentLaw
  pub once : GoesOnce
  pub plain : PlainRuns
  pub opening : PlainOpening
  pub runs : (program : Program) (input : List ℕ) → IsRun (mean program input)

-- ---- what a process shows that stands for a resident state

seen_status : (status : ResidentStatus) → standing_of (status_of status) ≡ resident_seen.standing_of status
seen_status resident_state.Running = refl
seen_status (resident_state.Ended code) = refl
seen_status (resident_state.Stopped segment offset why) = refl

stands_shown : (p : resident.Program) (r : ResidentState) (q : Process) → StandsFor p r q → shown q ≡ resident_seen.shown r
stands_shown p r q s = seen_same (shown q) (resident_seen.shown r) s.out s.err (ap standing_of s.status ∙ seen_status r.status)

-- ---- one run

cpu_once : GoesOnce → IsDetermined cpu.Goes
cpu_once once p q r x y = once 1 p q r (q, x, refl) (r, y, refl)

as_events : (n : ℕ) (p q : Process) → cpu.Runs n p q → Events cpu.Goes n p q
as_events zero p q x = x
as_events (suc n) p q x = (x.0, x.1, as_events n x.0 q x.2)

goes_extends : (p q : Process) → cpu.Goes p q → Extends p q
goes_extends p q x = subst (λ (r : Process). Extends p r) (sym x.result) (step_extends p x.machine x.event)

last_process : (q : Process) → IsOver (shown q).end → IsLast cpu.Goes q
last_process q over r x = not_running q over x.running

of_one_run : GoesOnce → (m k : ℕ) (p q r : Process) → cpu.Runs m p q → cpu.Runs k p r → AreOfOneRun m k (shown q) (shown r)
of_one_run once m k p q r x y =
    let one = cpu_once once in
    let first = as_events m p q x in
    let second = as_events k p r y in
    record {
      first = λ over. events_last cpu.Goes one m k p q r first (last_process q over) second;
      second = λ over. events_last cpu.Goes one k m p r q second (last_process r over) first;
      same = λ e. ap shown (events_same cpu.Goes one m k p q r first second e);
    }

extends_later : GoesOnce → (m k : ℕ) (p q r : Process) → cpu.Runs m p q → cpu.Runs k p r → m ≤ k → Extends q r
extends_later once m k p q r x y few =
    let rest = events_rest cpu.Goes (cpu_once once) m k p q r (as_events m p q x) (as_events k p r y) few in
    events_keep cpu.Goes Extends (λ s. extends_same s s refl refl) extends_both goes_extends (k - m) q r rest

-- ---- the way there

module _ (laws : LawsBelow) (program : Program) (exe : List ℕ) (b : IsBuiltPlain program exe) (name : List ℕ) (held : Option (List ℕ)) (buffer : Option ℕ) (state : State) (manager : Manager)
    (opened : IsOpened exe name held buffer state manager) (input bytes : List ℕ) (are : AreBytes input) where
  abbrev start : Managed
  start = begun state manager input

  -- the process of an opened program is the one that the executable starts
  process_is : started exe input ≡ start.process
  process_is = ap (λ (s : State). let m : Managed = begun s manager input in m.process) (sym opened.machine_is)

  no_stubs : length manager.stubs ≡ 0
  no_stubs = ap (λ (m : Manager). length m.stubs) opened.manager_is ∙ ap (λ (stubs : List ℕ). length (map loaded_segment stubs)) b.plain.stubs

  stands : StandsFor b.machine (b.start input) start.process
  stands = subst (λ (q : Process). StandsFor b.machine (b.start input) q) process_is (b.loads.process input are)

  pub follows_there : (turns : ℕ) → ShowsPlain (plain_rate program exe b) bytes start turns (mean program input turns)
  follows_there turns =
      let run : ShowsResident b.machine false (plain_rate program exe b) (b.start input) turns (mean program input turns) =
      resident_shows laws.start program b.few b.flat b.machine false b.placement b.start b.lowering b.starts input are turns in
      let alike = laws.alike b.machine run.count (b.start input) run.end start.process b.loads.whole stands (laws.leads b.machine false run.count (b.start input) run.end run.leads) in
      let managed = laws.plain.all bytes run.count start alike.0 no_stubs alike.1 in
      let same : managed.0.process ≡ alike.0 = managed.2 in
      let seen : resident_seen.shown run.end ≡ shown managed.0.process = sym (ap shown same ∙ stands_shown b.machine run.end alike.0 alike.2) in
      let taken : run.end.taken ≡ managed.0.process.taken = sym (ap (λ (q : Process). q.taken) same ∙ alike.2.taken) in
      record {
        events = run.count;
        end = managed.0;
        runs = managed.1;
        shows = subst (λ (y : Seen). Shows turns run.count (mean program input turns) y) seen run.shows;
        paid = subst (λ (n : ℕ). IsPaid (plain_rate program exe b) turns n (mean program input turns).end run.count) taken run.paid;
      }

  process_runs : (m : ℕ) (end : Managed) → ManagedRuns bytes m start end → cpu.Runs m start.process end.process
  process_runs m end runs = laws.plain.only bytes m start end no_stubs runs

  pub over_there : (m : ℕ) (end : Managed) → ManagedRuns bytes m start end → IsOver (shown end.process).end → (mean program input m ≡ shown end.process) ⊎ IsUndefined (mean program input m).end
  over_there m end runs over =
      let f = follows_there m in
      over_back m f.events (mean program input m) (shown end.process) (shown f.end.process) (mean program input m).end refl f.shows
      (of_one_run laws.once m f.events start.process end.process f.end.process (process_runs m end runs) (process_runs f.events f.end f.runs)) over

  out_there : (m : ℕ) (end : Managed) → ManagedRuns bytes m start end → Begins end.process.out (mean program input m).out ⊎ IsUndefined (mean program input m).end
  out_there m end runs =
      let f = follows_there m in
      let x = process_runs m end runs in
      let y = process_runs f.events f.end f.runs in
      let one = of_one_run laws.once m f.events start.process end.process f.end.process x y in
      subst (λ (ys : List ℕ). Begins end.process.out ys ⊎ IsUndefined (mean program input m).end) f.shows.out
      (written_back m f.events (shown f.end.process) end.process.out f.end.process.out (mean program input m).end f.shows.stands one.second
      (λ few. (extends_later laws.once m f.events start.process end.process f.end.process x y few).out))

  err_there : (m : ℕ) (end : Managed) → ManagedRuns bytes m start end → Begins end.process.err (mean program input m).err ⊎ IsUndefined (mean program input m).end
  err_there m end runs =
      let f = follows_there m in
      let x = process_runs m end runs in
      let y = process_runs f.events f.end f.runs in
      let one = of_one_run laws.once m f.events start.process end.process f.end.process x y in
      subst (λ (ys : List ℕ). Begins end.process.err ys ⊎ IsUndefined (mean program input m).end) f.shows.err
      (written_back m f.events (shown f.end.process) end.process.err f.end.process.err (mean program input m).end f.shows.stands one.second
      (λ few. (extends_later laws.once m f.events start.process end.process f.end.process x y few).err))

  -- ---- what follows

  ends_there : (code : ℕ) → IsDefined program input →
      ((m : ℕ) (end : Managed) → ManagedRuns bytes m start end → (shown end.process).end ≡ Ended code → (mean program input m).end ≡ Ended code)
      × ((turns : ℕ) → (mean program input turns).end ≡ Ended code → (m : ℕ) × (end : Managed) × ManagedRuns bytes m start end × ((shown end.process).end ≡ Ended code))
  ends_there code defined = (
    λ m end runs e. ended_back (mean program input m) (shown end.process) code (over_there m end runs (subst IsOver (sym e) tt)) (defined m) e,
    λ turns e. let f = follows_there turns in
        (f.events, f.end, f.runs, subst (λ (s : Standing). Stands turns f.events s (shown f.end.process).end) e f.shows.stands),
  )

  pub follows_plain : IsNeverStopped program → FollowsPlain (plain_rate program exe b) program input bytes start
  follows_plain never = record {
    follows = follows_there;
    over = over_there;
    out = out_there;
    err = err_there;
    never_stopped = λ m end runs e. stopped_back (mean program input m) (shown end.process) (over_there m end runs (subst IsOver (sym e) tt)) (never input (all_bytes input are) m) e;
    goes_on = λ turns going m end few runs.
        going_or_over (shown end.process).end (λ over. going_back (mean program input) (laws.runs program input) turns m (shown end.process) few going (over_there m end runs over) over);
    ends = ends_there;
  }

pub correct_plain : LawsBelow → (program : Program) (exe : List ℕ) → IsNeverStopped program → (b : IsBuiltPlain program exe) → IsCorrectPlain (plain_rate program exe b) program exe
correct_plain laws program exe never b = record {
  opens = λ name held buffer fits.
      (loaded (exe_of exe), start_manager (exe_of exe) name [] (unwrap_or buffer 0), laws.opening exe name held buffer b.plain fits);
  follows = λ name held buffer state manager opened input bytes are. follows_plain laws program exe b name held buffer state manager opened input bytes are never;
  one_end = λ input are defined m k end other r q over over'.
      one_back (mean program input) (laws.runs program input) m k (shown end.process) (shown other.process)
      (over_there laws program exe b r.name r.held r.buffer r.state r.manager r.opened input r.bytes are m end r.runs over)
      (over_there laws program exe b q.name q.held q.buffer q.state q.manager q.opened input q.bytes are k other q.runs over') defined over over';
}
