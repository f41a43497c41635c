-- Parts of what variables are, and of how they are made.
use Rattle.std.specs.Prelude.{ℕ, ◌-◌, List, ◌++◌, Option, Ok, slice_get}
use Rattle.typed_tree.specs.declared.units.Unit.{Unit as TypedUnit}
use Rattle.typed_tree.specs.declared.units.Program.{Program}
use Rattle.tp_meaning.specs.Trees.{Key, Tree}
use Rattle.tp_meaning.specs.Found.{Found, ◌>>=◌, known}
use Rattle.tp_meaning.specs.Store.{Store}
use Rattle.tp_meaning.specs.Activations.{Reached, Level, Activation, variable_in, global_at, held_or}

-- a variable of an activation, if there is such an activation
abbrev pub variable_of : TypedUnit → ℕ → Store → Option Level → Found Reached
variable_of unit number store level = known level >>= variable_in unit number store

-- the global of a name, if there is one
abbrev pub global_named : Program → Option Key → Found Reached
global_named program key = known key >>= global_at program

-- a variable of the routine itself, or what an open `with` holds
abbrev pub own_variable : Activation → ℕ → Store → Found Reached
own_variable f number store = held_or f number (variable_of f.unit number store (slice_get f.levels 0))

-- a variable of a routine round it
abbrev pub outer_variable : Activation → ℕ → ℕ → Store → Found Reached
outer_variable f level number store = variable_of f.unit number store (slice_get f.levels (level - 1))

-- these trees, and then others
abbrev pub behind : List Tree → Found (List Tree) → Found (List Tree)
behind front trees = trees >>= λ trees. Ok (front ++ trees)
