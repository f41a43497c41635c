-- The parts of places in expressions.
use Rattle.std.specs.Prelude.{ℕ, Bool, List, Option}
use Rattle.std.specs.Option.{option_map}
use Rattle.type_layout.specs.declared.definitions.TypeId.{TypeId}
use Rattle.type_layout.specs.declared.definitions.RoutineId.{RoutineId}
use Rattle.typed_tree.specs.declared.units.Program.{Program}
use Rattle.typed_tree.specs.Expressions.{Expression}
use Rattle.tp_meaning.specs.Trees.{Value, Code}
use Rattle.tp_meaning.specs.Store.{followed, number_of}
use Rattle.tp_meaning.specs.Programs.{Sort, definition, sort_in, routine_key}
use Rattle.tp_meaning.specs.Outcomes.{Does, ◌>>=◌, give, found, known, looked}
use Rattle.tp_meaning.specs.Activations.{Activation, Reached, whole}
use Rattle.tp_meaning.specs.Standard.{Operand, standard, target}
use Rattle.tp_meaning.specs.Expressions.{sort_of, element_in, block_made, standard_done}

-- where a pointer leads, as its expression is typed
abbrev pub followed_to : Activation → Expression → Value → Does Reached
followed_to f pointer v = do
  serial ← looked (λ store. followed store v)
  sort ← sort_of f pointer
  to ← found (target sort)
  give (record { spot = whole serial; sort = to })

-- the element of an array or a string at an index
abbrev pub indexed : Reached → Bool → Value → Does Reached
indexed at checked v = found (number_of v) >>= λ z. element_in at checked z (definition at.sort)

-- a routine of the unit as a value
abbrev pub code_of : Activation → RoutineId → Does Value
code_of f routine = known (routine_key f.unit routine) >>= λ key. give (Code key)

-- a standard routine by its number, with a result of this type, if it has one
abbrev pub performed : Program → Activation → Option TypeId → ℕ → List Operand → Does Value
performed program f ty number args = known (standard number) >>= standard_done program (option_map (sort_in f.unit) ty) args

-- a new block for what a pointer type of the unit points to, and its type
abbrev pub block_for : Program → Activation → TypeId → Does (ℕ × Sort)
block_for program f ty = do
  sort ← found (target (sort_in f.unit ty))
  serial ← block_made program sort
  give (serial, sort)
