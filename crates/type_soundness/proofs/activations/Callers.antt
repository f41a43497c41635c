-- Routines that are called, and what they are called with.
use Rattle.std.specs.Prelude.{◌≡◌, ℕ, ◌<◌, ◌^◌, List, [], length, slice_get, true, is_some, Option, Some, None, Ok}
use Rattle.program_typing.specs.type_layout.declared.definitions.Kind.TheVariants as kind
use Rattle.program_typing.specs.typed_tree.declared.units.Routine.{Routine}
use Rattle.program_typing.specs.typed_tree.declared.units.Unit.{Unit as TypedUnit}
use Rattle.program_typing.specs.typed_tree.declared.units.Program.{Program}
use Rattle.program_typing.specs.typed_tree.Statements.{view_stmt}
use Rattle.program_typing.specs.typed_tree.type_fits.Routines.{variables_of}
use Rattle.program_typing.specs.well_formed.Scopes.{Others}
use Rattle.program_typing.specs.well_formed.WellFormed.{IsRoutine}
use Rattle.program_typing.specs.tp_meaning.Trees.{Key, Spot, Value}
use Rattle.program_typing.specs.tp_meaning.Outcomes.{State}
use Rattle.program_typing.specs.tp_meaning.Activations.{Level, Activation, Callee, levels_around}
use Rattle.program_typing.specs.tp_meaning.Calls.{Do, Runs}
use Rattle.program_typing.specs.store_typing.types.Agreement.{IsUnit}
use Rattle.program_typing.specs.store_typing.stores.Worlds.{Made, World}
use Rattle.program_typing.specs.lvalues.Frames.{AreLevels, IsActive}
use Rattle.program_typing.specs.calls.Callees.{AreTaken}
use Rattle.program_typing.specs.programs.Outcomes.{IsTypedState, world, Ends}
use Rattle.program_typing.specs.programs.WellTyped.{HasClassPart}
use Rattle.program_typing.specs.programs.Calls.{IsInstance}

-- the activations round a routine, as they are reached from where it is called
pub record Around (w : World) (callee : Callee) (levels : List Level) : Type 0 where
  pub rest : List Level
  pub found : levels_around callee.routine.outer levels ≡ Ok rest
  pub are : AreLevels w callee.unit callee.routine.outer rest

-- a routine that is called, where the activations round it are, with arguments as it takes them
pub record IsCalled (w : World) (levels : List Level) (callee : Callee) (own : Option Spot) (class : Option Key) (args : List Value) : Type 0 where
  pub listed : IsUnit w.program callee.unit
  pub numbered : slice_get callee.unit.routines callee.number ≡ Some callee.routine
  pub around : Around w callee levels
  pub takes : AreTaken w callee.unit callee.routine.header.params args
  pub instance : IsInstance w callee own class

-- a routine of a unit: its types are in the unit's table, no `with` has the number of one of its variables, a method is declared in
-- no other routine, and instances that a constructor begins have a class
pub record IsCallable (unit : TypedUnit) (number : ℕ) (routine : Routine) : Type 0 where
  pub others : Others
  pub well_formed : IsRoutine others unit number routine
  pub few : length (variables_of routine) < 2 ^ 31
  pub method : is_some routine.owner ≡ true → routine.outer ≡ None
  pub class : routine.header.kind ≡ kind.Constructor → HasClassPart unit.types routine.owner

pub record HasRoutines (program : Program) : Type 0 where
  pub routines : (unit : TypedUnit) (number : ℕ) (routine : Routine) → IsUnit program unit → slice_get unit.routines number ≡ Some routine → IsCallable unit number routine

-- bodies of routines that are run with fewer turns do no ill-typed step
pub record RunsBodies (program : Program) (again : Runs) : Type 0 where
  pub bodies : (made : List Made) (callee : Callee) (f : Activation) (s : State) → IsUnit program callee.unit → slice_get callee.unit.routines callee.number ≡ Some callee.routine
      → f.unit ≡ callee.unit → IsActive (world program made) f callee.number [] → IsTypedState (world program made) s
      → Ends (world program made) (λ u flow. Unit {0}) (again (Do (view_stmt callee.routine.body)) f s)
