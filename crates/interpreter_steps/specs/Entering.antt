-- What a call does before and after the body of its routine.
use Rattle.std.specs.Prelude.{ℕ, ◌&&◌, not, length, List, Option, Some, Ok}
use Rattle.typed_tree.specs.declared.units.Program.{Program}
use Rattle.typed_tree.specs.type_fits.Routines.{variables_of}
use Rattle.tp_meaning.specs.Trees.{Key, Spot, Value}
use Rattle.tp_meaning.specs.Store.{next_serial, without}
use Rattle.tp_meaning.specs.Programs.{Sort, is_overlaid, class_key}
use Rattle.tp_meaning.specs.Outcomes.{Does, ◌>>=◌, ◌>>◌, give, found, known, raised_if, looked, changed, is_installed}
use Rattle.tp_meaning.specs.Activations.{Activation, Callee, whole, callee_of, opened, levels_around, class_set, result_of}
use Rattle.tp_meaning.specs.Calls.{activation_of, is_too_deep}
use Rattle.tp_meaning.specs.Expressions.{Instance}

-- the routine that is called, where its unit can be reached and the stack has room
abbrev pub admitted : Program → Activation → Key → Does Callee
admitted program f key = do
  callee ← found (callee_of program key)
  installed ← is_installed
  raised_if (is_overlaid program key.unit && not installed) 208
  raised_if (is_too_deep program callee f.sum) 202
  give callee

-- its activation and the serial number of its first variable, once the variables are made and the instance has its class
abbrev pub begun : Callee → Activation → Option Spot → Option Key → List Value → Does (Activation × ℕ)
begun callee f own class args = do
  levels ← found (levels_around callee.routine.outer f.levels)
  first ← looked (λ store. Ok (next_serial store))
  changed (opened callee own args)
  changed (class_set callee own class)
  give (activation_of callee levels first f.sum, first)

-- what it gives, once its variables are gone
abbrev pub ended : Callee → ℕ → Does Value
ended callee first = do
  result ← looked (result_of callee first)
  changed (λ store. Ok (without store first (length (variables_of callee.routine))))
  give result

-- a new block that is an instance of a type
abbrev pub new_instance : ℕ → Sort → Does Instance
new_instance serial sort = known (class_key sort) >>= λ class. give (record { own = Some (whole serial); class = Some class })
