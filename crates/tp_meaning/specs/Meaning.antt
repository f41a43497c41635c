-- What a program means: what it writes and how it ends within a number of turns.
use Rattle.std.specs.Prelude.{◌≡◌, ◌<◌, All, ℕ, zero, suc, List, [], ◌∷◌, map, Option, Some, None, pos, false}
use Rattle.std.specs.List.{flat_map}
use Rattle.common_values.specs.behaviour.Seen.{Standing, Ended, Going, Stopped, Seen}
use Rattle.typed_tree.specs.declared.units.Global.{Global}
use Rattle.typed_tree.specs.declared.units.Unit.{Unit as TypedUnit}
use Rattle.typed_tree.specs.declared.units.Program.{Program}
use Rattle.tp_meaning.specs.Trees.{Value, Ordinal, Void, holding}
use Rattle.tp_meaning.specs.Shapes.{first_tree}
use Rattle.tp_meaning.specs.Store.{Object, Store}
use Rattle.tp_meaning.specs.Outcomes.{State, Outcome, Done, Over, Does, ◌>>◌, give}
use Rattle.tp_meaning.specs.Activations.{Activation, variable_object}
use Rattle.tp_meaning.specs.Calls.{Runs, entered}
use Rattle.tp_meaning.specs.Statements.{task}

-- ---- turns

-- with fuel, which runs out no earlier than the turns where it is greater
abbrev pub run_by : Program → ℕ → Runs
run_by program zero one f s = Over Going s
run_by program (suc fuel) one f s = task program (run_by program fuel) one f s

-- what a task does within the turns that are left
unfoldable pub run : Program → Runs
run program one f s = run_by program (suc s.turns) one f s

-- ---- the start

abbrev pub unit_objects : TypedUnit → List (Option Object)
unit_objects unit = map (λ (global : Global). variable_object (first_tree unit.types.types global.ty global.first)) unit.globals

-- the variable of the unit Overlay is 0 at first
abbrev pub start_store : Program → Store
start_store program = record { objects = variable_object (holding (Ordinal (pos 0))) ∷ flat_map unit_objects program.units; rows = [] }

abbrev pub start_state : Program → List ℕ → ℕ → State
start_state program input turns =
    record { turns = turns; store = start_store program; installed = false; input = input; out = []; err = [] }

-- before the first activation
abbrev pub start_activation : TypedUnit → Activation
start_activation unit = record { unit = unit; levels = []; withs = []; sum = 0 }

-- the start of a main or initialisation part spends no turn
abbrev pub started : Program → Runs → TypedUnit → Option ℕ → Does Value
started program again unit None = give Void
started program again unit (Some number) = entered program again (start_activation unit) (record { unit = unit.name; number = number }) None None []

-- the units begin in order, and then the program ends with code 0
abbrev pub all_started : Program → Runs → List TypedUnit → Does Value
all_started program again [] s = Over (Ended 0) s
all_started program again (unit ∷ units) s = (started program again unit unit.initial >> all_started program again units) s

abbrev pub seen_so : Standing → State → Seen
seen_so standing s = record { out = s.out; err = s.err; end = standing }

-- the outcome of a whole run is always Over
abbrev pub seen_of : Outcome Value → Seen
seen_of (Done v s) = seen_so (Ended 0) s
seen_of (Over standing s) = seen_so standing s

-- What a program shows on an input within so many turns. A program that isn't typed may come to a step that nothing is said
-- of; then it shows `Stopped`.
abbrev pub mean : Program → List ℕ → ℕ → Seen
mean program input turns = seen_of (all_started program (run program) program.units (start_state program input turns))

-- on no input of bytes does the program come to a step that is none of the language
abbrev pub IsNeverStopped : Program → Type 0
IsNeverStopped program = (input : List ℕ) → All (λ byte. byte < 256) input → (turns : ℕ) → (mean program input turns).end ≡ Stopped → ⊥
