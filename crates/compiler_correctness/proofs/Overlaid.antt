-- Programs with overlaid units: the headline, and what follows of it.
use Rattle.std.proofs.Common.{◌≡◌, ℕ, zero, suc, ◌+◌, ◌-◌, ◌*◌, ◌<◌, ◌≤◌, true, List, [], ◌∷◌, Some, refl, sym, ◌∙◌, subst, inl, inr, arith}
use Rattle.std.specs.Prelude.{◌⊎◌}
use Rattle.std.proofs.lemmas.Bool.{cases_lt}
use Rattle.common_values.specs.behaviour.Seen.{Standing, Ended, Going, Undefined, Stopped, Seen, Stands, Shows, Begins, IsOver, IsUndefined, IsRun}
use Rattle.typed_tree.specs.declared.units.Program.{Program}
use Rattle.tp_meaning.specs.Meaning.{mean, IsNeverStopped}
use Rattle.overlay_ring.specs.Table.{Table}
use Rattle.overlay_manager.specs.overlay_run.Managed.{Managed}
use Rattle.resident_machine.specs.Program as resident
use Rattle.resident_machine.specs.Run.{RunsFramed}
use Rattle.resident_machine.specs.State.{ResidentState}
use Rattle.resident_machine.specs.machine_lines.Steps.{Leads}
use Rattle.statement_simulation.specs.flow.Sites.{AreBytes}
use Rattle.code_simulation.specs.start.Shown as resident_seen
use Rattle.compiler_correctness.specs.Runs.{Files, shown, begun, IsPaid}
use Rattle.tabled_runs.specs.Tables.{Tabled, On, NotLegal, TabledRuns, TabledGoes}
use Rattle.compiler_correctness.specs.Hypotheses.{IsBuilt, Matches, ComesTo, overlaid_rate, resident_rate}
use Rattle.compiler_correctness.specs.Correct.{IsShown, ShowsWithin, Agrees, RunsTo, IsCorrect}
use Rattle.compiler_correctness.proofs.Events.{IsDetermined, events_rest, events_last, events_same}
use Rattle.compiler_correctness.proofs.Backward.{AreOfOneRun, over_back, written_back, stopped_back, ended_back, one_back, going_back, going_or_over, all_bytes}
use Rattle.compiler_correctness.proofs.OverlayFiles.{overlays_follow}
use Rattle.compiler_correctness.proofs.Written.{Extends}
use Rattle.compiler_correctness.proofs.Costs.{paid_thrice}
use Rattle.compiler_correctness.proofs.Chain.{StartLaw, ShowsResident, resident_shows}
use Rattle.compiler_correctness.proofs.Tabled.{StepsOnce, goes_once, as_events, as_runs, on_same, on_legal, last_on, last_illegal, runs_write}
use Rattle.compiler_correctness.proofs.Seating.{fixed, HasRoom, run_with, run_fixed, asked, one_more, mended, opened_room}

-- ---- the laws below

abbrev pub LeadsFramed : Type 0
LeadsFramed = (p : resident.Program) (n : ℕ) (r t : ResidentState) → Leads p true n r t → RunsFramed p n r t

pub record LawsBelow : Type 0 where
  pub start : StartLaw
  pub framed : LeadsFramed
  pub once : StepsOnce
  pub runs : (program : Program) (input : List ℕ) → IsRun (mean program input)

-- ---- the way there

-- more events show as much
later_stands : (turns count events : ℕ) (e f : Standing) → count ≤ events → Stands turns count e f → Stands turns events e f
later_stands turns count events (Ended code) f few s = s
later_stands turns count events Going f few s = let z = s.0 in (omega (arith, z, few), s.1)
later_stands turns count events (Undefined act) f few s = tt
later_stands turns count events Stopped f few s = s

later_shows : (turns count events : ℕ) (x y : Seen) → count ≤ events → Shows turns count x y → Shows turns events x y
later_shows turns count events x y few s = record { out = s.out; err = s.err; stands = later_stands turns count events x.end y.end few s.stands }

-- the cost of three events for each
thrice : (rate turns read : ℕ) (end : Standing) (count events : ℕ) → events ≤ 3 * count → IsPaid rate turns read end count → IsPaid (3 * rate) turns read end events
thrice rate turns read (Ended code) count events few paid = paid_thrice rate (turns + read + 1) count events paid few
thrice rate turns read Going count events few paid = paid_thrice rate (turns + read + 1) count events paid few
thrice rate turns read (Undefined act) count events few paid = tt
thrice rate turns read Stopped count events few paid = paid_thrice rate (turns + read + 1) count events paid few

matched : (rate turns count events : ℕ) (x : Seen) (r : ResidentState) (end : Tabled) → events ≤ 3 * count → Shows turns count x (resident_seen.shown r) → IsPaid rate turns r.taken x.end count → Matches count events r end → IsShown (3 * rate) turns events x end
matched rate turns count events x r (On p tables) few shows paid m = (
  later_shows turns count events x (shown p.process) m.0 (subst (λ (y : Seen). Shows turns count x y) (sym m.1) shows),
  thrice rate turns p.process.taken x.end count events few (subst (λ (n : ℕ). IsPaid rate turns n x.end count) (sym m.2) paid),
)
matched rate turns count events x r NotLegal few shows paid m = tt

-- A run of m events to p, which goes on by other tables for more than j events.
record GoesFurther (bytes : List ℕ) (m j most : ℕ) (start p : Managed) : Type 0 where
  tables : List Table
  left : List Table
  run : TabledRuns bytes m (On start tables) (On p left)
  more : ℕ
  last : Managed
  rest : List Table
  on : TabledRuns bytes more (On p left) (On last rest)
  further : j < more
  within : m + j < most

module _ (laws : LawsBelow) (program : Program) (files : Files) (b : IsBuilt program files) where
  pub agrees : Agrees (overlaid_rate program files b) program files
  agrees name buffer state manager opened input are turns =
      let rate : ℕ = resident_rate b.flat b.machine true b.placement b.few in
      let run : ShowsResident b.machine true rate (b.start input) turns (mean program input turns) =
      resident_shows laws.start program b.few b.flat b.machine true b.placement b.start b.lowering b.starts input are turns in
      let framed : RunsFramed b.machine run.count (b.start input) run.end = laws.framed b.machine run.count (b.start input) run.end run.leads in (
        3 * run.count,
        λ tables.
            let there : ComesTo files run.count run.end (On (begun state manager input) tables) = overlays_follow b.machine b.start files b.holds name buffer state manager opened input are run.count run.end framed tables in
            record {
              events = there.events;
              few = there.few;
              end = there.end;
              runs = there.runs;
              shows = matched rate turns run.count there.events (mean program input turns) run.end there.end there.few run.shows run.paid there.matches;
            },
      )

  -- ---- back

  one : IsDetermined (TabledGoes files.ovr)
  one = goes_once laws.once files.ovr

  of_one_run : (m k : ℕ) (s : Tabled) (p q : Managed) (left rest : List Table) → TabledRuns files.ovr m s (On p left) → TabledRuns files.ovr k s (On q rest) → AreOfOneRun m k (shown p.process) (shown q.process)
  of_one_run m k s p q left rest x y =
      let first = as_events files.ovr m s (On p left) x in
      let second = as_events files.ovr k s (On q rest) y in
      record {
        first = λ over. events_last (TabledGoes files.ovr) one m k s (On p left) (On q rest) first (last_on files.ovr p left over) second;
        second = λ over. events_last (TabledGoes files.ovr) one k m s (On q rest) (On p left) second (last_on files.ovr q rest over) first;
        same = λ e. on_same p q left rest (events_same (TabledGoes files.ovr) one m k s (On p left) (On q rest) first second e);
      }

  -- a run that is over used no table that is not legal
  never_illegal : (m k : ℕ) (s : Tabled) (p : Managed) (left : List Table) → TabledRuns files.ovr m s (On p left) → IsOver (shown p.process).end → TabledRuns files.ovr k s NotLegal → ⊥
  never_illegal m k s p left x over y =
      let first = as_events files.ovr m s (On p left) x in
      let second = as_events files.ovr k s NotLegal y in
      let below : k ≤ m = events_last (TabledGoes files.ovr) one m k s (On p left) NotLegal first (last_on files.ovr p left over) second in
      let above : m ≤ k = events_last (TabledGoes files.ovr) one k m s NotLegal (On p left) second (last_illegal files.ovr) first in
      on_legal p left (events_same (TabledGoes files.ovr) one m k s (On p left) NotLegal first second (omega (arith, below, above)))

  over_by : (rate m k : ℕ) (s : Tabled) (p : Managed) (left : List Table) (x : Seen) (end : Tabled) → TabledRuns files.ovr m s (On p left) → IsOver (shown p.process).end
      → TabledRuns files.ovr k s end → IsShown rate m k x end → (x ≡ shown p.process) ⊎ IsUndefined x.end
  over_by rate m k s p left x (On q rest) run over there shows =
      over_back m k x (shown p.process) (shown q.process) x.end refl shows.0 (of_one_run m k s p q left rest run there) over
  over_by rate m k s p left x NotLegal run over there shows = absurd (never_illegal m k s p left run over there)

  over_there : (input : List ℕ) → AreBytes input → (m : ℕ) (end : Managed) → RunsTo files input m end → IsOver (shown end.process).end → (mean program input m ≡ shown end.process) ⊎ IsUndefined (mean program input m).end
  over_there input are m end r over =
      let there = (agrees r.name r.buffer r.state r.manager r.opened input are m).1 r.tables in
      over_by (overlaid_rate program files b) m there.events (On (begun r.state r.manager input) r.tables) end r.left (mean program input m) there.end r.runs over there.runs there.shows

  two : {A B C : Type 0} → A ⊎ C → B ⊎ C → (A × B) ⊎ C
  two (inl a) (inl b) = inl (a, b)
  two (inl a) (inr c) = inr c
  two (inr c) b = inr c

  -- what was written by then is a beginning of what is meant
  abbrev WroteOf : Managed → Seen → Type 0
  WroteOf p x = (Begins p.process.out x.out × Begins p.process.err x.err) ⊎ IsUndefined x.end

  wrote_by : (rate m k : ℕ) (s : Tabled) (p q : Managed) (left rest : List Table) (x : Seen) → TabledRuns files.ovr m s (On p left) → TabledRuns files.ovr k s (On q rest) → IsShown rate m k x (On q rest) → WroteOf p x
  wrote_by rate m k s p q left rest x run there shows =
      let alike = of_one_run m k s p q left rest run there in
      let later : m ≤ k → Extends p.process q.process = λ few. runs_write files.ovr (k - m) (On p left) (On q rest)
      (events_rest (TabledGoes files.ovr) one m k s (On p left) (On q rest) (as_events files.ovr m s (On p left) run) (as_events files.ovr k s (On q rest) there) few) in
      two
      (subst (λ (ys : List ℕ). Begins p.process.out ys ⊎ IsUndefined x.end) shows.0.out (written_back m k (shown q.process) p.process.out q.process.out x.end shows.0.stands alike.second (λ few. (later few).out)))
      (subst (λ (ys : List ℕ). Begins p.process.err ys ⊎ IsUndefined x.end) shows.0.err (written_back m k (shown q.process) p.process.err q.process.err x.end shows.0.stands alike.second (λ few. (later few).err)))

  -- where a run came to a table that is not legal, it goes further by another
  goes_further : (m j k most : ℕ) (start p q : Managed) (tables left rest : List Table) → HasRoom (fixed start.manager) → TabledRuns files.ovr m (On start tables) (On p left) → TabledRuns files.ovr j (On p left) (On q rest)
      → TabledRuns files.ovr k (On start tables) NotLegal → k ≤ most → GoesFurther files.ovr m j most start p
  goes_further m j k most start p q tables left rest room run on bad few =
      let Go = TabledGoes files.ovr in
      let first = as_events files.ovr m (On start tables) (On p left) run in
      let second = as_events files.ovr k (On start tables) NotLegal bad in
      let reached : m ≤ k = events_last Go one k m (On start tables) NotLegal (On p left) second (last_illegal files.ovr) first in
      let behind = events_rest Go one m k (On start tables) (On p left) NotLegal first second reached in
      let beyond = as_events files.ovr j (On p left) (On q rest) on in
      let below : j ≤ k - m = events_last Go one (k - m) j (On p left) NotLegal (On q rest) behind (last_illegal files.ovr) beyond in
      let other : j ≡ k - m → ⊥ = λ e. on_legal q rest (sym (events_same Go one (k - m) j (On p left) NotLegal (On q rest) behind beyond e)) in
      let less : j < k - m = elim (cases_lt j (k - m)) [ inl h ↦ h | inr h ↦ absurd (other (omega (arith, below, h))) ] in
      let found = asked files.ovr (k - m) p left (as_runs files.ovr (k - m) (On p left) NotLegal behind) in
      let same : fixed found.at.manager ≡ fixed start.manager = run_fixed files.ovr found.before p found.at left found.tables found.way ∙ run_fixed files.ovr m start p tables left run in
      let mend = mended files.ovr found.at found.tables (subst HasRoom (sym same) room) found.event in
      let later = run_with files.ovr found.before p found.at left found.tables (mend.0 ∷ []) found.way in
      let whole = run_with files.ovr m start p tables left later.0 run in
      let count = found.count in
      record {
        tables = whole.0;
        left = later.0;
        run = whole.1;
        more = found.before + 1;
        last = mend.1;
        rest = [];
        on = one_more files.ovr found.before (On p later.0) (On found.at (mend.0 ∷ [])) (On mend.1 []) later.1 mend.2;
        further = omega (arith, less, count);
        within = omega (arith, less, reached, few);
      }

  wrote_or : (rate m j k most : ℕ) (x : Seen) (start p q : Managed) (tables left rest : List Table) → HasRoom (fixed start.manager) → TabledRuns files.ovr m (On start tables) (On p left) → TabledRuns files.ovr j (On p left) (On q rest)
      → (end : Tabled) → TabledRuns files.ovr k (On start tables) end → IsShown rate m k x end → k ≤ most → WroteOf p x ⊎ GoesFurther files.ovr m j most start p
  wrote_or rate m j k most x start p q tables left rest room run on (On r kept) there shows few = inl (wrote_by rate m k (On start tables) p r left kept x run there shows)
  wrote_or rate m j k most x start p q tables left rest room run on NotLegal there shows few = inr (goes_further m j k most start p q tables left rest room run on there few)

  -- by tables that are legal for long enough the run comes to where it shows what is meant
  wrote_soon : (rate m most : ℕ) (x : Seen) (start p : Managed) → HasRoom (fixed start.manager) → ((tables : List Table) → ShowsWithin rate most files.ovr (On start tables) m x)
      → (fuel j : ℕ) (q : Managed) (tables left rest : List Table) → TabledRuns files.ovr m (On start tables) (On p left) → TabledRuns files.ovr j (On p left) (On q rest) → most ≤ m + j + fuel → WroteOf p x
  wrote_soon rate m most x start p room shows zero j q tables left rest run on enough =
      let there = shows tables in
      elim (wrote_or rate m j there.events most x start p q tables left rest room run on there.end there.runs there.shows there.few) [
        | inl wrote ↦ wrote
        | inr further ↦ let within = further.within in absurd (omega (arith, within, enough))
      ]
  wrote_soon rate m most x start p room shows (suc fuel) j q tables left rest run on enough =
      let there = shows tables in
      elim (wrote_or rate m j there.events most x start p q tables left rest room run on there.end there.runs there.shows there.few) [
        | inl wrote ↦ wrote
        | inr further ↦ let more = further.further in
            wrote_soon rate m most x start p room shows fuel further.more further.last further.tables further.left further.rest further.run further.on (omega (arith, more, enough))
      ]

  wrote_there : (input : List ℕ) → AreBytes input → (m : ℕ) (end : Managed) → RunsTo files input m end → WroteOf end (mean program input m)
  wrote_there input are m end r =
      let all = agrees r.name r.buffer r.state r.manager r.opened input are m in
      wrote_soon (overlaid_rate program files b) m all.0 (mean program input m) (begun r.state r.manager input) end (opened_room files.exe r.name (Some files.ovr) r.buffer r.state r.manager r.opened) all.1
      all.0 0 end r.tables r.left r.left r.runs refl (omega arith)

  pub correct : IsNeverStopped program → IsCorrect (overlaid_rate program files b) program files
  correct never = record {
    overlays = b.pair.overlays;
    opens = λ name buffer fits. record {
      executable = b.pair.executable;
      overlays = b.pair.overlays;
      overlays_are = b.pair.known;
      fit = record { together = b.pair.together; enough = fits.enough; memory = fits.memory };
      machine_is = refl;
      manager_is = refl;
    };
    agrees = agrees;
    over = over_there;
    wrote = wrote_there;
    ends = λ input are defined m end r code e.
        ended_back (mean program input m) (shown end.process) code (over_there input are m end r (subst IsOver (sym e) tt)) (defined m) e;
    never_stopped = λ input are m end r e.
        stopped_back (mean program input m) (shown end.process) (over_there input are m end r (subst IsOver (sym e) tt)) (never input (all_bytes input are) m) e;
    one_end = λ input are defined m k end other r q over over'.
        one_back (mean program input) (laws.runs program input) m k (shown end.process) (shown other.process) (over_there input are m end r over) (over_there input are k other q over') defined over over';
    goes_on = λ input are turns going m end few r.
        going_or_over (shown end.process).end (λ over. going_back (mean program input) (laws.runs program input) turns m (shown end.process) few going (over_there input are m end r over) over);
  }
