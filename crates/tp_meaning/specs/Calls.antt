-- What a call does once its arguments are known.
use Rattle.std.specs.Prelude.{ℕ, zero, suc, ℤ, ◌+◌, ◌&&◌, not, nat_lt, Bool, true, false, List, [], ◌∷◌, length, map, Option, Some, None, pos, negsuc, Ok}
use Rattle.std.specs.Option.{option_map_or}
use Rattle.type_layout.specs.Words.{same_bytes}
use Rattle.typed_tree.specs.declared.expressions.Variable.{Variable}
use Rattle.typed_tree.specs.declared.units.Program.{Program}
use Rattle.typed_tree.specs.Statements.{Statement, view_stmt}
use Rattle.typed_tree.specs.Frames.{frame_of}
use Rattle.common_values.specs.Strings.{upper}
use Rattle.typed_tree.specs.type_fits.Routines.{variables_of}
use Rattle.tp_meaning.specs.Trees.{Key, Spot, Value, Ordinal, Text, Void}
use Rattle.tp_meaning.specs.Store.{next_serial, without}
use Rattle.tp_meaning.specs.Programs.{is_overlaid, stack_of, overlay_file, integer_sort, overlay_result, Sort, class_sort, method_in}
use Rattle.tp_meaning.specs.Outcomes.{Does, ◌>>=◌, ◌>>◌, give, raised, undefined, stuck, found, raised_if, looked, changed, is_installed, install}
use Rattle.tp_meaning.specs.Activations.{Reached, Level, Activation, whole, Callee, callee_of, opened, levels_around, class_set, class_at, result_of, assigned}

-- how a statement ended: the next one follows, or the routine is left
pub data Flow : Type 0 where
  Next : Flow
  Left : Flow

-- what is run behind a turn: a statement, or the turns that a `for` loop has left, up to a last value of its variable
pub data Task : Type 0 where
  Do : Statement → Task
  Turns : Variable → ℤ → Bool → Statement → Task

-- what a task does in an activation
abbrev pub Runs : Type 0
Runs = Task → Activation → Does Flow

-- ---- routines of the sources

-- the activation of a routine that is called
abbrev pub activation_of : Callee → List Level → ℕ → ℕ → Activation
activation_of callee levels first sum = record {
  unit = callee.unit;
  levels = (record { number = callee.number; routine = callee.routine; first = first }) ∷ levels;
  withs = [];
  sum = sum + frame_of callee.unit.types.types callee.routine;
}

-- its variables are made, the body is run, and the variables are gone; what a function gives is known before
abbrev pub activated : Runs → Callee → Activation → Option Spot → Option Key → List Value → Does Value
activated again callee f own class args = do
  levels ← found (levels_around callee.routine.outer f.levels)
  first ← looked (λ store. Ok (next_serial store))
  changed (opened callee own args)
  changed (class_set callee own class)
  again (Do (view_stmt callee.routine.body)) (activation_of callee levels first f.sum)
  result ← looked (result_of callee first)
  changed (λ store. Ok (without store first (length (variables_of callee.routine))))
  give result

-- error 202 comes where the frames would leave less than 512 bytes of the stack
abbrev pub is_too_deep : Program → Callee → ℕ → Bool
is_too_deep program callee sum = nat_lt (stack_of program) (sum + frame_of callee.unit.types.types callee.routine + 512)

-- error 208 comes first, where the routine's unit is overlaid and the overlays are not installed
abbrev pub entered : Program → Runs → Activation → Key → Option Spot → Option Key → List Value → Does Value
entered program again f key own class args = do
  callee ← found (callee_of program key)
  installed ← is_installed
  raised_if (is_overlaid program key.unit && not installed) 208
  raised_if (is_too_deep program callee f.sum) 202
  activated again callee f own class args

-- An instance without class has no virtual method. Under range checks that is error 210.
abbrev pub without_class : Bool → Does Key
without_class true = raised 210
without_class false = undefined 4

-- A class need not have the method that is called: a constructor that was called through a pointer to an ancestor leaves a
-- descendant's instance as one of the ancestor's class. Nothing is defined then, and no check finds it.
abbrev pub with_method : Option Key → Does Key
with_method None = undefined 4
with_method (Some key) = give key

-- an instance of a class that no unit of the program declares is none that a typed program makes
abbrev pub dispatched_in : ℕ → Option Sort → Does Key
dispatched_in slot None = stuck
dispatched_in slot (Some sort) = with_method (method_in slot sort)

abbrev pub dispatched_by : Program → ℕ → Bool → Option Key → Does Key
dispatched_by program slot checked None = without_class checked
dispatched_by program slot checked (Some class) = dispatched_in slot (class_sort program class)

-- the routine that the class of an instance has for a slot
abbrev pub method_of : Program → Reached → ℕ → Bool → Does Key
method_of program at slot checked = looked (class_at at) >>= dispatched_by program slot checked

-- ---- the unit Overlay: its calls spend no turn and have no activation

abbrev pub overlay_variable : Reached
overlay_variable = record { spot = whole overlay_result; sort = integer_sort }

abbrev pub with_overlay_result : ℤ → Does Value
with_overlay_result z = changed (assigned overlay_variable (Ordinal z)) >> give Void

abbrev pub is_file : Option (List ℕ) → List ℕ → Bool
is_file file text = option_map_or (λ (name : List ℕ). same_bytes name (map upper text)) file false

abbrev pub installed_if : Bool → Does Value
installed_if true = install >> with_overlay_result (pos 0)
installed_if false = with_overlay_result (negsuc 1)

-- OvrInit, OvrSetBuf and OvrClearBuf, in this order
abbrev pub overlay_called : Program → ℕ → List Value → Does Value
overlay_called program zero (Text name ∷ []) = installed_if (is_file (overlay_file program) name)
overlay_called program (suc zero) (Ordinal size ∷ []) = with_overlay_result (pos 0)
overlay_called program (suc (suc zero)) [] = with_overlay_result (pos 0)
overlay_called program number args = stuck
