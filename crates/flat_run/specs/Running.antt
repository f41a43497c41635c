-- The interpreter's states and answers as values.
use Rattle.std.specs.Prelude.{◌≡◌, ℕ, List, Option, Some, None, map, Result, Ok, Err}
use Rattle.common_values.specs.behaviour.Seen.{Standing, Ended, Going, Undefined, Seen}
use Rattle.flat_run.specs.declared.context.Interpreter.{Interpreter}
use Rattle.flat_run.specs.declared.start.Meaning.{Meaning}
use Rattle.flat_run.specs.declared.state.Run.{Run}
use Rattle.flat_run.specs.declared.state.Flow.{Flow}
use Rattle.flat_run.specs.declared.state.Flow.TheVariants as flow
use Rattle.flat_run.specs.declared.state.Stop.{Stop}
use Rattle.flat_run.specs.declared.state.Stop.TheVariants as stop
use Rattle.flat_run.specs.declared.state.MeanEnd.{MeanEnd}
use Rattle.flat_run.specs.declared.state.MeanEnd.TheVariants as mean_end
use Rattle.flat_code.specs.declared.memory.Cell.TheVariants.{Outside}
use Rattle.flat_code.specs.declared.memory.Trap.{Trap}
use Rattle.flat_code.specs.declared.memory.Trap.TheVariants.{ByZero, Bad}
use Rattle.flat_code.specs.Memory.{cells_of}
use Rattle.flat_code.specs.declared.tree.FlatResult.{FlatResult}
use Rattle.flat_code.specs.Program.{Name, Routine, UnitCode, FlatProgram, Choice}
use Rattle.flat_code.specs.Plain.{view_unit, program_of, choice_of}
use Rattle.flat_code.specs.Meaning.{Frame, State, Outcome, Next, Left, Returned, Over, with_cells, raised, Does, activated, entered}

abbrev pub view_program : Interpreter → FlatProgram
view_program i = program_of (map view_unit i.units.now) i.overlaid.now i.stack i.heap

abbrev pub view_choice : Interpreter → Choice
view_choice i = choice_of (map view_unit i.units.now)

abbrev pub view_run : Run → State
view_run run = record {
  turns = run.turns;
  cells = cells_of run.memory.cells.items;
  flag = run.flag;
  input = run.input.now;
  out = run.out.items;
  err = run.err.items;
  work = run.work;
}

abbrev pub view_end : MeanEnd → Standing
view_end (mean_end.Ended code) = Ended code
view_end mean_end.Going = Going
view_end (mean_end.Undefined act) = Undefined act

abbrev pub outcome_of : Flow → State → Outcome
outcome_of flow.Next s = Next s
outcome_of (flow.Left loops) s = Left loops s
outcome_of flow.Returned s = Returned s

-- what follows a run of a loop's body
abbrev pub around_of : Option Flow → (State → Outcome) → State → Outcome
around_of None again s = again s
around_of (Some flow) again s = outcome_of flow s

-- an outcome but for the cells that an ended run leaves
abbrev pub forget : Outcome → Outcome
forget (Next s) = Next s
forget (Left loops s) = Left loops s
forget (Returned s) = Returned s
forget (Over standing s) = Over standing (with_cells s (λ x. Outside))

-- a run that met this stops for this
abbrev pub stop_of : Trap → Stop
stop_of ByZero = stop.Error 200
stop_of (Bad act) = stop.Undefined act

-- the interpreter stopped in s as the outcome says, but for the cells; where memory was wanting nothing is said
abbrev pub Stops : Stop → State → Outcome → Type 0
Stops stop.NoMemory s o = Unit {0}
Stops stop.Going s o = forget o ≡ forget (Over Going s)
Stops (stop.Ended code) s o = forget o ≡ forget (Over (Ended code) s)
Stops (stop.Error code) s o = forget o ≡ forget (raised code s)
Stops (stop.Undefined act) s o = forget o ≡ forget (Over (Undefined act) s)

-- the interpreter came to s, and the outcome is what it answered there
abbrev pub Flows : Result Flow Stop → State → Outcome → Type 0
Flows (Ok flow) s o = o ≡ outcome_of flow s
Flows (Err stop) s o = Stops stop s o

-- the same where only the next statement can follow
abbrev pub Passes : Result (Unit {0}) Stop → State → Outcome → Type 0
Passes (Ok done) s o = o ≡ Next s
Passes (Err stop) s o = Stops stop s o

-- the interpreter found something in s, from which whatever comes next goes on
abbrev pub Leads : {A B : Type 0} → (A → B) → Result A Stop → State → ((B → State → Outcome) → Outcome) → Type 0
Leads {A} {B} view (Ok x) s o = (go : B → State → Outcome) → o go ≡ go (view x) s
Leads {A} {B} view (Err stop) s o = (go : B → State → Outcome) → Stops stop s (o go)

-- whether a call goes on to the activation, or stops before it, whatever the routine does
abbrev pub Admits : FlatProgram → Choice → Name → List ℕ → Frame → State → Routine → Result (Unit {0}) Stop → Type 0
Admits program choice name args f s r (Ok done) = (again : Does) (unit : UnitCode) (wanted : Option FlatResult) → entered program choice again name unit args wanted f s r ≡ activated choice again name unit r args wanted f s
Admits program choice name args f s r (Err stop) = (again : Does) (unit : UnitCode) (wanted : Option FlatResult) → Stops stop s (entered program choice again name unit args wanted f s r)

-- the interpreter ran all that was to be run, or stopped before
abbrev pub EndsAll : Result (Unit {0}) Stop → State → Outcome → Type 0
EndsAll (Ok done) s o = o ≡ Over (Ended 0) s
EndsAll (Err stop) s o = Stops stop s o

abbrev pub view_meaning : Meaning → Seen
view_meaning meaning = record { out = meaning.out; err = meaning.err; end = view_end meaning.end }
