-- The interpreter's states and answers as those of the meaning.
use Rattle.std.specs.Prelude.{◌≡◌, ℕ, ◌++◌, Option, Some, None, Result, Ok, Err}
use Rattle.common_values.specs.behaviour.Seen.{Ended, Going, Undefined, Stopped, Seen}
use Rattle.common_values.specs.Written.{error_text}
use Rattle.typed_tree.specs.declared.units.Program.{Program}
use Rattle.interpreter_store.specs.cell_store.Views.{view_key, view_spot, view_store}
use Rattle.interpreter_steps.specs.declared.state.Run.{Run}
use Rattle.interpreter_steps.specs.declared.state.Over.{Over}
use Rattle.interpreter_steps.specs.declared.state.Over.TheVariants as over
use Rattle.interpreter_steps.specs.declared.state.Flow.{Flow}
use Rattle.interpreter_steps.specs.declared.state.Flow.TheVariants as flow
use Rattle.interpreter_steps.specs.declared.state.Interpreter.{Interpreter}
use Rattle.interpreter_store.specs.declared.cell_store.traps.Trap.{Trap}
use Rattle.interpreter_store.specs.declared.cell_store.traps.Trap.TheVariants as trap
use Rattle.interpreter_store.specs.declared.cell_store.traps.Stop.{Stop}
use Rattle.interpreter_store.specs.declared.cell_store.traps.Stop.TheVariants as stop
use Rattle.tp_meaning.specs.Outcomes.{State, Outcome, Does, Done, Over as OverIn}
use Rattle.tp_meaning.specs.Calls.{Flow as PureFlow, Next, Left}
use Rattle.tp_meaning.specs.Meaning.{seen_so}
use Rattle.std.specs.Option.{option_map}
use Rattle.interpreter_steps.specs.declared.instances.Instance.{Instance}
use Rattle.tp_meaning.specs.Expressions.{Instance as PureInstance}

abbrev pub view_run : Run → State
view_run run = record {
  turns = run.turns;
  store = view_store run.store;
  installed = run.installed;
  input = run.input.now;
  out = run.out.items;
  err = run.err.items;
}

abbrev pub program_of : Interpreter → Program
program_of i = i.sources.program.now

abbrev pub view_flow : Flow → PureFlow
view_flow flow.Next = Next
view_flow flow.Left = Left

-- how a trap ends a run, and how an answer of the store does
abbrev pub over_of_trap : Trap → Over
over_of_trap (trap.Act number) = over.Undefined number
over_of_trap (trap.Error code) = over.Error code
over_of_trap trap.IllTyped = over.Stuck

abbrev pub over_of : Stop → Over
over_of stop.OutOfMemory = over.OutOfMemory
over_of (stop.Trapped trap) = over_of_trap trap

-- what a run shows once it is over
abbrev pub shown : {A : Type 0} → Outcome A → Option Seen
shown (Done a s) = None
shown (OverIn standing s) = Some (seen_so standing s)

-- The run is over in s, as the outcome says. The store that it leaves doesn't matter, and where memory ran out nothing is
-- said.
abbrev pub Ends : {A : Type 0} → Over → State → Outcome A → Type 0
Ends over.OutOfMemory s o = Unit {0}
Ends over.Going s o = shown o ≡ Some (seen_so Going s)
Ends (over.Ended code) s o = shown o ≡ Some (seen_so (Ended code) s)
Ends (over.Error code) s o = shown o ≡ Some (seen_so (Ended code) (record s { err = s.err ++ error_text code }))
Ends (over.Undefined act) s o = shown o ≡ Some (seen_so (Undefined act) s)
Ends over.Stuck s o = shown o ≡ Some (seen_so Stopped s)

-- the interpreter came to s with this answer, and so says the outcome
abbrev pub Comes : {A B : Type 0} → (A → B) → Result A Over → State → Outcome B → Type 0
Comes view (Ok x) s o = o ≡ Done (view x) s
Comes view (Err over) s o = Ends over s o

-- a turn was spent, and the outcome is that of what follows; or none was left
abbrev pub Spends : {A : Type 0} → Result (Unit {0}) Over → State → Outcome A → Does A → Type 0
Spends (Ok done) s o go = o ≡ go s
Spends (Err over) s o go = Ends over s o

abbrev pub view_instance : Instance → PureInstance
view_instance instance = record { own = option_map view_spot instance.own; class = option_map view_key instance.class }
