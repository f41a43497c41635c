-- Tasks of a typed program that do no ill-typed step.
use Rattle.std.specs.Prelude.{ℕ, List}
use Rattle.well_formed.specs.type_layout.declared.definitions.TypeId.{TypeId}
use Rattle.well_formed.specs.typed_tree.declared.expressions.Variable.{Variable}
use Rattle.well_formed.specs.typed_tree.declared.units.Program.{Program}
use Rattle.well_formed.specs.typed_tree.Statements.{Statement}
use Rattle.well_formed.specs.typed_tree.type_fits.Fits.{IsSome, definition, stored_as}
use Rattle.well_formed.specs.Scopes.{Others, Scope, HasVariable}
use Rattle.well_formed.specs.WellFormed.{IsStatement, scope_in}
use Rattle.store_typing.specs.tp_meaning.Outcomes.{State}
use Rattle.store_typing.specs.tp_meaning.Activations.{Activation}
use Rattle.store_typing.specs.tp_meaning.Calls.{Task, Do, Turns, Runs}
use Rattle.store_typing.specs.stores.Worlds.{Made}
use Rattle.program_typing.specs.lvalues.Frames.{IsActive, NamesGlobal}
use Rattle.program_typing.specs.programs.Outcomes.{IsTypedState, world, Ends}
use Rattle.program_typing.specs.programs.References.{Site}
use Rattle.program_typing.specs.programs.Statements.{RefersStatement}

-- what a routine's body may name inside `with`s, where its unit supposes this of others
abbrev pub scope_with : Others → Site → List TypeId → Scope
scope_with others site withs = record (scope_in others site.unit site.number) { withs = withs }

pub record IsBody (site : Site) (withs : List TypeId) (statement : Statement) : Type 0 where
  pub others : Others
  pub typed : IsStatement (scope_with others site withs) statement
  pub refers : RefersStatement site (scope_with others site withs) statement typed

-- the variable of a `for`
pub record IsCounter (site : Site) (withs : List TypeId) (variable : Variable) (ty : TypeId) : Type 0 where
  pub others : Others
  pub has : HasVariable (scope_with others site withs) variable ty
  pub names : NamesGlobal site.program site.unit variable ty
  pub ordinal : IsSome (stored_as (definition site.unit.types.types ty))

abbrev pub IsTask : Site → List TypeId → Task → Type 0
IsTask site withs (Do statement) = IsBody site withs statement
IsTask site withs (Turns variable last down body) = ((ty : TypeId) × IsCounter site withs variable ty) × IsBody site withs body

-- what a run of a typed program asks of what tasks do with fewer turns
abbrev pub AreSound : Program → Runs → Type 0
AreSound program again = (made : List Made) (f : Activation) (number : ℕ) (withs : List TypeId) (task : Task) (s : State)
    → IsActive (world program made) f number withs → IsTask (record { program = program; unit = f.unit; number = number }) withs task → IsTypedState (world program made) s
    → Ends (world program made) (λ w flow. Unit {0}) (again task f s)
