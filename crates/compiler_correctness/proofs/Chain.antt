-- From the meaning to the resident machine.
use Rattle.std.proofs.Common.{◌≡◌, ℕ, ◌+◌, ◌*◌, ◌≤◌, Bool, List, length, sym, subst, arith}
use Rattle.common_values.specs.behaviour.Seen.{Standing, Ended, Going, Undefined, Stopped, Seen, Shows}
use Rattle.common_values.proofs.behaviour.SeenLaws.{shows_twice}
use Rattle.typed_tree.specs.declared.units.Program.{Program}
use Rattle.tp_meaning.specs.Meaning.{mean}
use Rattle.flat_code.specs.Legal.{Mention}
use Rattle.flat_code.specs.Meaning.{flat_run}
use Rattle.flat_code.specs.Program.{FlatProgram}
use Rattle.resident_machine.specs.Program as resident
use Rattle.resident_machine.specs.State.{ResidentState}
use Rattle.resident_machine.specs.machine_lines.Steps.{Leads}
use Rattle.statement_simulation.specs.flow.Outcomes.{budget}
use Rattle.statement_simulation.specs.flow.Sites.{World, AreBytes}
use Rattle.code_simulation.specs.bodies.Layouts.{IsIn, Layout, PlacedProgram}
use Rattle.code_simulation.specs.start.Shown.{shown, ShowsRun}
use Rattle.code_simulation.specs.start.Starting.{first_keys, HasStart, IsStart}
use Rattle.compiler_correctness.specs.Runs.{IsPaid}
use Rattle.compiler_correctness.specs.Hypotheses.{HasSegments, IsLoweringOf, world_of, Placement, Starts, resident_rate}
use Rattle.compiler_correctness.proofs.Costs.{paid_events}

-- the law on programs that stand on the resident machine
abbrev pub StartLaw : Type 0
StartLaw =
    (w : World) (reached : Mention → Bool) (x : Layout) → PlacedProgram w (IsIn reached) x → (h : HasStart w (IsIn reached) x) (input : List ℕ) (r : ResidentState)
    → IsStart w (IsIn reached) x h input r → (turns : ℕ) → ShowsRun w input turns r

-- After some events, none astray, the resident machine shows what was meant within so many turns.
pub record ShowsResident (machine : resident.Program) (framed : Bool) (rate : ℕ) (r : ResidentState) (turns : ℕ) (x : Seen) : Type 0 where
  pub count : ℕ
  pub end : ResidentState
  pub leads : Leads machine framed count r end
  pub shows : Shows turns count x (shown end)
  pub paid : IsPaid rate turns end.taken x.end count

-- events that work pays, by turns and bytes that pay for the work
events_paid : (w : World) (few units turns read : ℕ) (end : Standing) (work count : ℕ) → IsPaid few turns read end work → count ≤ budget w (work + units) + (4 + w.last) → IsPaid (w.rate * (few + units) + (4 + w.last)) turns read end count
unfolding budget
events_paid w few units turns read (Ended code) work count paid few_events = paid_events w.rate w.last few units (turns + read + 1) work count (omega arith) paid few_events
events_paid w few units turns read Going work count paid few_events = paid_events w.rate w.last few units (turns + read + 1) work count (omega arith) paid few_events
events_paid w few units turns read (Undefined act) work count paid few_events = tt
events_paid w few units turns read Stopped work count paid few_events = paid_events w.rate w.last few units (turns + read + 1) work count (omega arith) paid few_events

pub resident_shows : StartLaw → (program : Program) (few : ℕ) (flat : FlatProgram) (machine : resident.Program) (framed : Bool) (p : Placement flat machine framed) (start : List ℕ → ResidentState)
    → IsLoweringOf few program flat → Starts flat machine framed p start → (input : List ℕ) → AreBytes input → (turns : ℕ)
    → ShowsResident machine framed (resident_rate flat machine framed p few) (start input) turns (mean program input turns)
resident_shows law program few flat machine framed p start lowering starts input bytes turns =
    let w : World = world_of flat machine framed p.choice p.rate p.last in
    let segments : HasSegments p.choice = record { data_small = p.placed.data_small; stack_small = p.placed.stack_small; heap_small = p.heap_small } in
    let lowered = lowering p.reached p.choice p.placed.reaches p.runtime p.placed.legal segments input bytes turns in
    let m : ℕ = lowered.0 in
    let run : ShowsRun w input m (start input) = law w p.reached p.layout p.placed p.begins input (start input) (starts input bytes) m in
    let read : (flat_run flat p.choice input m).read ≡ run.end.taken = sym run.read in
    let paid : IsPaid few turns run.end.taken (mean program input turns).end (flat_run flat p.choice input m).work =
    subst (λ (n : ℕ). IsPaid few turns n (mean program input turns).end (flat_run flat p.choice input m).work) read lowered.2 in
    record {
      count = run.count;
      end = run.end;
      leads = run.leads;
      shows = shows_twice turns m run.count (mean program input turns) (flat_run flat p.choice input m).seen (shown run.end) lowered.1 run.shows;
      paid = events_paid w few (length (first_keys flat flat.order)) turns run.end.taken (mean program input turns).end (flat_run flat p.choice input m).work run.count paid run.few;
    }
