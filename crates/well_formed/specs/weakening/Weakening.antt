-- When a scope has all that another has.
use Rattle.std.specs.Prelude.{◌≡◌, ℕ, List, [], ◌++◌, Some, slice_get}
use Rattle.type_layout.specs.declared.definitions.TypeId.{TypeId}
use Rattle.type_layout.specs.declared.definitions.TypeDef.{TypeDef}
use Rattle.type_layout.specs.Table.{AllDefined}
use Rattle.typed_tree.specs.declared.units.Routine.{Routine}
use Rattle.well_formed.specs.Scopes.{IsOneOf, OtherUnit, OtherGlobal, OtherRoutine, Others, Scope, IsVariableOf}

-- what is known of a routine by its header, wherever its block stands
pub record IsSame (one other : Routine) : Type 0 where
  pub header : one.header ≡ other.header
  pub owner : one.owner ≡ other.owner
  pub outer : one.outer ≡ other.outer
  pub far : one.far ≡ other.far

-- What is supposed of other units in the first is so in the second.
pub record AreAmong (one other : Others) : Type 0 where
  pub units : (unit : OtherUnit) → IsOneOf unit one.units → IsOneOf unit other.units
  pub globals : (global : OtherGlobal) → IsOneOf global one.globals → IsOneOf global other.globals
  pub routines : (routine : OtherRoutine) → IsOneOf routine one.routines → IsOneOf routine other.routines

-- The second scope has the types of the first and then others, supposes as much of other units, and has the globals, the routines and the
-- variables of the first under their numbers. The routines round the first are round the second, and the open `with`s are the same.
pub record Weakens (s t : Scope) : Type 0 where
  pub defined : AllDefined [] s.types
  pub types : (more : List TypeDef) × (t.types ≡ s.types ++ more)
  pub others : AreAmong s.others t.others
  pub globals : (number : ℕ) (ty : TypeId) → slice_get s.globals number ≡ Some ty → slice_get t.globals number ≡ Some ty
  pub routines : (number : ℕ) (one : Routine) → slice_get s.routines number ≡ Some one → (other : Routine) × (slice_get t.routines number ≡ Some other) × IsSame one other
  pub around : (number : ℕ) → IsOneOf number s.around → IsOneOf number t.around
  pub levels : (level number : ℕ) (ty : TypeId) → IsVariableOf s level number ty → IsVariableOf t level number ty
  pub withs : s.withs ≡ t.withs
