-- The whole run: the first lines, the first routine of each unit in order, and the end.
use Rattle.std.proofs.Common.{◌≡◌, ℕ, suc, ◌+◌, ◌-◌, ◌*◌, ◌<◌, ◌≤◌, true, List, [], ◌∷◌, ◌++◌, length, Option, Some, None, drop, arith, refl, sym, ap, subst, ◌∙◌, length-drop}
use Rattle.std.specs.Prelude.{IsTrue}
use Rattle.std.specs.List.{AllByRecursion}
use Rattle.common_values.specs.behaviour.Seen.{Standing, Ended, Going, Undefined, Stopped, Stands, Shows}
use Rattle.x86_table.specs.declared.instr.Instr.TheVariants as instr
use Rattle.x86_table.specs.Standing as table
use Rattle.x86_table.specs.Standing.{IsSpelledAt}
use Rattle.x86_table.proofs.Stand.{stands_front, stands_back}
use Rattle.flat_code.specs.Calls.{State, Outcome, Next, Left, Returned, Over, and_then, stack_top, called}
use Rattle.flat_code.specs.Legal.{Mention, ToRoutine}
use Rattle.flat_code.specs.Meaning.{run, start_frame, start_state, started, initial_of, all_started, seen_of}
use Rattle.flat_code.specs.Program.{Name, Key, UnitCode}
use Rattle.flat_code.specs.Values.{Frame}
use Rattle.flat_code.specs.costs.Worked.{worked, all_worked}
use Rattle.flat_code.proofs.costs.Work.{called_worked}
use Rattle.cpu_8086.specs.declared.registers.Registers.{Registers}
use Rattle.resident_machine.specs.Effect.{with_memory}
use Rattle.resident_machine.specs.Program.{Image}
use Rattle.resident_machine.specs.State as resident
use Rattle.resident_machine.specs.State.{ResidentState, ResidentStatus}
use Rattle.resident_machine.specs.machine_lines.Straight.{MayWrite, ones, IsAt}
use Rattle.resident_machine.proofs.machine_lines.Steps.{leads_on}
use Rattle.code_templates.specs.code_lines.Lines.{Around, call_far}
use Rattle.effect_simulation.specs.effects.Pushed.{Pushes}
use Rattle.statement_simulation.specs.expressions.Active.{Active}
use Rattle.statement_simulation.specs.flow.Sites.{World, Site, Live, Fits, Represents}
use Rattle.statement_simulation.specs.flow.Outcomes.{budget, Arrives, IsSo, Settles, Flows, EndsErrors}
use Rattle.statement_simulation.proofs.flow.Flows.{settles_on, flows_at}
use Rattle.statement_simulation.proofs.flow.States.{budget_more, represents_like}
use Rattle.call_simulation.specs.frames.Chain.{IsChained}
use Rattle.call_simulation.proofs.steps.Steps.{key_flows}
use Rattle.code_simulation.specs.bodies.Expressible.{IsFar}
use Rattle.code_simulation.specs.bodies.Layouts.{Layout, PlacedProgram}
use Rattle.code_simulation.proofs.bodies.Calls.{by_far_call}
use Rattle.code_simulation.proofs.bodies.Frames.{target, ends_errors, HasRoomFor}
use Rattle.code_simulation.proofs.bodies.Induction.{bodies}
use Rattle.code_simulation.specs.start.Starting.{start_code, first_key, first_keys, start_calls, finish_code, HasStart, IsStart}
use Rattle.code_simulation.specs.start.Shown.{standing_of, shown, ShowsRun}
use Rattle.code_simulation.proofs.start.Lines.{registers_begun, begin_carries, finished_state, finishes}
use Rattle.code_simulation.proofs.start.Plainly.{IsPlainly, plain_called}

-- a unit that has nothing, as the start's own
abbrev no_unit : UnitCode
no_unit = record { names = []; routines = []; globals = []; vmts = []; initial = None }

-- the frame before the first activation, with a link word that suits far code
abbrev first_frame : ℕ → Frame
first_frame top = record { unit = []; names = []; bp = 0; link = 6; sp = top; sum = 0 }

module _ (w : World) (R : Mention → Type 0) (x : Layout) (p : PlacedProgram w R x) (h : HasStart w R x) where
  abbrev site : Site
  site = record { segment = Image h.segment; code = h.code; at = h.at; labels = h.labels; context = record { addresses = x.addresses; own = []; unit = no_unit; far = true } }

  abbrev live : Live
  live = record { frame = first_frame (stack_top w.program); fixed = x.constants; records = [] }

  fits : Fits w site live
  fits = record {
    placed = h.placed;
    error = p.error_code;
    suits = record { unit = refl; names = refl; link = refl; link_small = omega arith; datum = p.datum; vmt = p.vmt; data_segment = p.data_small; stack_segment = p.stack_small };
    above = p.above;
    apart = p.apart;
  }

  chained : IsTrue w.framed → IsChained w live
  chained e = record { marked = p.marked e; links = []; chain = refl; places = refl; even_bp = refl; even_sp = omega arith }

  ends : EndsErrors w live x.addresses.error_routine
  ends = ends_errors w R x p site live fits (λ place byte e. e)

  around : Around
  around = record { home = 0; ends = [] }

  -- ## The first routine of a unit

  -- flat code begins in a frame whose link word is no word; a call without arguments and result never looks
  frames_alike : (s : State) (key : Key) → called w.program w.choice (run w.program w.choice) [] None live.frame s key ≡ called w.program w.choice (run w.program w.choice) [] None (start_frame w.program) s key
  frames_alike s key = refl

  abbrev nothing : (k : ℕ) (r : ResidentState) → IsAt site.segment (site.at k) r → Pushes w.machine w.framed site.segment 0 (site.at k) r []
  nothing k r here = record {
    count = 0;
    few = omega arith;
    registers = r.registers;
    cells = r.cells;
    leads = refl;
    here = here;
    words = tt;
    sp = omega arith;
    bp = refl;
    ss = refl;
    ds = refl;
    direction = refl;
    bytes = λ place kept. refl;
    free = λ place f. f;
  }

  -- a turn more than is there, and the work of so many starts
  abbrev before : ℕ → State → State
  before c s = record s { turns = suc s.turns; work = s.work + c }

  first_flows : (c k : ℕ) (s : State) (r : ResidentState) → IsAt site.segment (site.at k) r → Represents w live s r → (key : Key) → R (ToRoutine key) → IsFar w.program key → table.Stands (IsSpelledAt site.code) site.at site.labels k (call_far (x.addresses.far key)) → Flows w site live around (site.at (k + 1)) (before c s) r (all_worked (c + 1) (called w.program w.choice (run w.program w.choice) [] None (start_frame w.program) s key))
  first_flows c k s r here a key reached far stands =
      let t = target w.program key (λ called. called.far ≡ true) far in
      let tall = h.tall in
      let most = p.shallow.short key in
      let room : HasRoomFor w R x p live key t.routine = record { tall = λ one. (tall, omega arith); deep = omega (arith, tall, most) } in
      let callable = by_far_call w R x p (suc s.turns) (bodies w R x p (suc s.turns)) site live fits (λ place byte e. e) chained key t.unit t.routine reached t.has_unit t.has_routine room t.holds in
      let a0 = represents_like w live s (suc s.turns) (s.work + c) r a in
      let sp = a.sp in
      let enough : 68 ≤ r.registers.sp = omega (arith, sp, tall) in
      let paid = p.paid in
      let flows = key_flows w site live fits ends chained None tt (call_far (x.addresses.far key)) (suc s.turns) x.most 0 k 1 (omega arith) (omega (arith, paid)) stands tt around (before c s) r a0 s.turns refl (omega arith) [] (nothing k r here) enough key callable in
      let there : k + 1 + 0 ≡ k + 1 = omega arith in
      let sum : s.work + c + 1 ≡ s.work + (c + 1) = omega arith in
      let Goal : Outcome → Type 0 = λ o. Flows w site live around (site.at (k + 1)) (before c s) r o in
      let first = flows_at w site live fits around (site.at (k + 1 + 0)) (site.at (k + 1)) (before c s) r _ (ap site.at there) flows in
      let second = subst (λ n. Goal (called w.program w.choice (run w.program w.choice) [] None live.frame (record s { work = n }) key)) sum first in
      subst Goal (frames_alike (worked (c + 1) s) key ∙ called_worked w.program w.choice (c + 1) [] None (start_frame w.program) s key) second

  -- ## One unit after another

  -- the run is over so, with the work of so many starts before and behind
  abbrev EndsRun : ℕ → ℕ → State → ResidentState → Outcome → Type 0
  EndsRun c n s r (Over standing u) = Settles w standing (worked c s) r (worked (c + n) u)
  EndsRun c n s r _ = ⊥

  fewer_turns : (standing : Standing) (turns count : ℕ) (status : ResidentStatus) → IsSo standing (suc turns) count status → IsSo standing turns count status
  fewer_turns (Ended code) turns count status so = so
  fewer_turns Going turns count status so = let z = so.0 in (omega arith, so.1)
  fewer_turns (Undefined act) turns count status so = tt
  fewer_turns Stopped turns count status so = so

  settles_from : (c m n : ℕ) (standing : Standing) (s : State) (r : ResidentState) (u : State) → m ≤ n → Settles w standing (before c s) r (worked m u) → Settles w standing (worked c s) r (worked n u)
  settles_from c m n standing s r u le z =
      let work = z.work in
      let more = subst (λ k. budget w (u.work + m) ≤ budget w k) {x = u.work + m + (n - m)} {y = u.work + n} (omega arith) (budget_more w (u.work + m) (n - m)) in
      record {
        count = z.count;
        end = z.end;
        leads = z.leads;
        so = fewer_turns standing s.turns z.count z.end.status z.so;
        work = omega (arith, work, more);
        unread = z.unread;
        read = z.read;
        out = z.out;
        err = z.err;
        input = z.input;
      }

  ends_on : (c n ip : ℕ) (s : State) (r : ResidentState) (t : State) (a : Arrives w site live ip (before c s) r (worked (c + 1) t)) (o : Outcome) → EndsRun (c + 1) n t a.end o → EndsRun c (suc n) s r o
  ends_on c n ip s r t a (Over standing u) z =
      settles_from c (c + 1 + n) (c + suc n) standing s r u (omega arith) (settles_on w site live fits ip standing (before c s) r (worked (c + 1) t) (worked (c + 1 + n) u) a z)
  ends_on c n ip s r t a (Next u) z = absurd z
  ends_on c n ip s r t a (Left loops u) z = absurd z
  ends_on c n ip s r t a (Returned u) z = absurd z

  after_first : (c n k : ℕ) (s : State) (r : ResidentState) (o : Outcome) (go : State → Outcome) → IsPlainly o → Flows w site live around (site.at k) (before c s) r (all_worked (c + 1) o) → ((t : State) (e : ResidentState) → IsAt site.segment (site.at k) e → Represents w live t e → EndsRun (c + 1) n t e (go t)) → EndsRun c (suc n) s r (and_then o go)
  after_first c n k s r (Next t) go plain a next =
      ends_on c n (site.at k) s r t a (go t) (next t a.end a.here (represents_like w live (worked (c + 1) t) t.turns t.work a.end a.stands))
  after_first c n k s r (Over standing u) go plain z next = settles_from c (c + 1) (c + suc n) standing s r u (omega arith) z
  after_first c n k s r (Left loops u) go plain z next = absurd plain
  after_first c n k s r (Returned u) go plain z next = absurd plain

  -- the run ends with code 0
  run_ends : (c k : ℕ) (s : State) (r : ResidentState) → IsAt site.segment (site.at k) r → Represents w live s r → table.Stands (IsSpelledAt site.code) site.at site.labels k (ones finish_code) → EndsRun c 0 s r (Over (Ended 0) s)
  run_ends c k s r here a stands =
      let enough = p.error.enough in
      let more = budget_more w (s.work + c) 0 in
      let same : s.work + c + 0 ≡ s.work + (c + 0) = omega arith in
      let grown = subst (λ n. budget w (s.work + c) ≤ budget w n) same more in
      record {
        count = 2;
        end = finished_state w.machine w.framed site.segment site.code site.at site.labels h.placed k r;
        leads = finishes w.machine w.framed site.segment site.code site.at site.labels h.placed k r here stands;
        so = refl;
        work = omega (arith, enough, grown);
        unread = a.unread;
        read = a.read;
        out = a.out;
        err = a.err;
        input = refl;
      }

  abbrev AreFirst : List Key → Type 0
  AreFirst keys = AllByRecursion (λ (key : Key). R (ToRoutine key) × IsFar w.program key) keys

  runs_on : (names : List Name) (c k : ℕ) (s : State) (r : ResidentState) → AreFirst (first_keys w.program names) → IsAt site.segment (site.at k) r → Represents w live s r → table.Stands (IsSpelledAt site.code) site.at site.labels k (start_calls x.addresses (first_keys w.program names) ++ ones finish_code) → EndsRun c (length (first_keys w.program names)) s r (all_started w.program w.choice (run w.program w.choice) names s)
  runs_on [] c k s r first here a stands = run_ends c k s r here a stands
  runs_on (name ∷ names) c k s r first here a stands = by (λ c k s r f here a stands. runs_on names c k s r f here a stands) (initial_of (w.program.unit name)) first stands
    where
      Behind : Type 0
      Behind = (c k : ℕ) (s : State) (r : ResidentState) → AreFirst (first_keys w.program names) → IsAt site.segment (site.at k) r → Represents w live s r → table.Stands (IsSpelledAt site.code) site.at site.labels k (start_calls x.addresses (first_keys w.program names) ++ ones finish_code) → EndsRun c (length (first_keys w.program names)) s r (all_started w.program w.choice (run w.program w.choice) names s)

      by : Behind → (o : Option ℕ) → AreFirst (first_key name o ++ first_keys w.program names) → table.Stands (IsSpelledAt site.code) site.at site.labels k (start_calls x.addresses (first_key name o ++ first_keys w.program names) ++ ones finish_code) → EndsRun c (length (first_key name o ++ first_keys w.program names)) s r (and_then (started w.program w.choice (run w.program w.choice) name o s) (all_started w.program w.choice (run w.program w.choice) names))
      by again None first stands = again c k s r first here a stands
      by again (Some number) first stands =
          let key : Key = record { unit = name; number = number } in
          after_first c (length (first_keys w.program names)) (k + 1) s r (called w.program w.choice (run w.program w.choice) [] None (start_frame w.program) s key) (all_started w.program w.choice (run w.program w.choice) names)
          (plain_called w.program w.choice (run w.program w.choice) [] None (start_frame w.program) s key)
          (first_flows c k s r here a key first.0.0 first.0.1 (stands.0, tt))
          (λ t e at_next b. again (c + 1) (k + 1) t e first.1 at_next b stands.1)

  -- ## From the start

  module _ (input : List ℕ) (r : ResidentState) (i : IsStart w R x h input r) (turns : ℕ) where
    abbrev s0 : State
    s0 = start_state w.program w.choice input turns

    abbrev g : Registers
    g = registers_begun w.machine w.framed site.segment site.code site.at site.labels h.placed 0 x.addresses.data_segment r.registers

    abbrev t : ResidentState
    t = with_memory r g r.cells

    active : Active w.machine.installed w.choice live.frame s0.cells g r.cells
    active =
        let ss = i.ss in
        let sp = i.sp in
        let top = h.top in
        let inside = h.inside in
        record {
          ss = i.ss;
          ds = h.data_there;
          bp = refl;
          top = omega (arith, sp, top);
          inside = omega (arith, ss, sp, inside);
          known = λ place byte e. (i.known place byte e).0;
          small = λ place byte e. (i.known place byte e).1;
          reached = i.reached;
          below = λ place low high. i.below place (omega (arith, ss, low)) (omega (arith, ss, sp, high));
          spare = λ offset less. subst (λ z. MayWrite r.cells w.machine.installed (16 * z + offset)) (sym i.ss) (i.spare offset (omega (arith, sp, less)));
        }

    stands_for : Represents w live s0 t
    stands_for = record {
      active = active;
      sp = i.sp;
      direction = refl;
      flag = i.flag;
      set = λ e. absurd (never e);
      outside = λ place byte e. (i.constants place byte e).1;
      fixed = λ place byte e. (i.constants place byte e).0;
      records = i.records;
      unread = ap (λ n. drop n r.input) i.taken ∙ i.input_is;
      bytes = i.bytes;
      read = let none = i.taken in omega (arith, none);
      out = i.out;
      err = i.err;
    }
      where
        never : w.program.overlaid [] ≡ true → ⊥
        never e = let z = sym h.resident ∙ e in absurd (cc)

    abbrev keys : List Key
    keys = first_keys w.program w.program.order

    begun : IsAt site.segment (site.at 4) t
    begun = (begin_carries w.machine w.framed site.segment site.code site.at site.labels h.placed 0 x.addresses.data_segment r i.here (stands_front (IsSpelledAt site.code) site.at site.labels 0 (ones (start_code x.addresses.data_segment)) (start_calls x.addresses keys ++ ones finish_code) h.stands)).here

    whole : EndsRun 0 (length keys) s0 t (all_started w.program w.choice (run w.program w.choice) w.program.order s0)
    whole =
        runs_on w.program.order 0 4 s0 t h.first begun stands_for
        (stands_back (IsSpelledAt site.code) site.at site.labels 0 (ones (start_code x.addresses.data_segment)) (start_calls x.addresses keys ++ ones finish_code) h.stands)

    shows_so : (standing : Standing) (count : ℕ) (status : ResidentStatus) → IsSo standing turns count status → Stands turns (4 + count) standing (standing_of status)
    shows_so (Ended code) count status so = ap standing_of so
    shows_so Going count status so = let z = so.0 in (omega arith, ap standing_of so.1)
    shows_so (Undefined act) count status so = tt
    shows_so Stopped count status so = absurd so

    pub shows_here : ShowsRun w input turns r
    shows_here = by (all_started w.program w.choice (run w.program w.choice) w.program.order s0) refl whole
      where
        by : (o : Outcome) → all_started w.program w.choice (run w.program w.choice) w.program.order s0 ≡ o → EndsRun 0 (length keys) s0 t o → ShowsRun w input turns r
        by (Over standing u) e z =
            let c = begin_carries w.machine w.framed site.segment site.code site.at site.labels h.placed 0 x.addresses.data_segment r i.here (stands_front (IsSpelledAt site.code) site.at site.labels 0 (ones (start_code x.addresses.data_segment)) (start_calls x.addresses keys ++ ones finish_code) h.stands) in
            let seen = ap (λ o. seen_of input o) e in
            let work = z.work in
            let same_input = z.input ∙ i.input_is in
            let left = ap length z.unread in
            let cut = length-drop z.end.taken z.end.input in
            let long = ap length same_input in
            let read = z.read in
            record {
              count = 4 + z.count;
              end = z.end;
              leads = leads_on w.machine w.framed 4 z.count r t z.end c.leads z.leads;
              shows = subst (λ f. Shows turns (4 + z.count) f.seen (shown z.end)) (sym seen) (record { out = z.out; err = z.err; stands = shows_so standing z.count z.end.status z.so });
              few = subst (λ f. 4 + z.count ≤ budget w (f.work + length keys) + (4 + w.last)) (sym seen) (subst (λ n. 4 + z.count ≤ budget w (u.work + n) + (4 + w.last)) {x = 0 + length keys} {y = length keys} (omega arith) (omega (arith, work)));
              read = subst (λ f. z.end.taken ≡ f.read) (sym seen) (omega (arith, left, cut, long, read));
            }
        by (Next u) e z = absurd z
        by (Left loops u) e z = absurd z
        by (Returned u) e z = absurd z

pub shows_run : (w : World) (R : Mention → Type 0) (x : Layout) → PlacedProgram w R x → (h : HasStart w R x) (input : List ℕ) (r : ResidentState) → IsStart w R x h input r → (turns : ℕ) → ShowsRun w input turns r
shows_run w R x p h input r i turns = shows_here w R x p h input r i turns
