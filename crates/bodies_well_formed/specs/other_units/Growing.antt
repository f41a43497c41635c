-- When the scope of trees has all that another has.
use Rattle.std.specs.Prelude.{◌≡◌, ℕ, List, ◌++◌, Some, slice_get}
use Rattle.tp_check_stmt.specs.type_layout.declared.definitions.TypeId.{TypeId}
use Rattle.tp_check_stmt.specs.type_layout.declared.definitions.TypeDef.{TypeDef}
use Rattle.tp_check_stmt.specs.typed_tree.declared.units.Routine.{Routine}
use Rattle.tp_check_stmt.specs.typed_tree.type_fits.Routines.{variables_of}
use Rattle.rules_well_formed.specs.well_formed.Scopes.{Scope}
use Rattle.rules_well_formed.specs.well_formed.weakening.Weakening.{IsSame, AreAmong}

-- the same routine, whose block may have declared more
pub record IsFurther (one other : Routine) : Type 0 where
  pub same : IsSame one other
  pub variables : (number : ℕ) (ty : TypeId) → slice_get (variables_of one) number ≡ Some ty → slice_get (variables_of other) number ≡ Some ty

-- Types, globals and routines of the first under their numbers, each routine with its variables, and what is supposed of other units; what
-- is open matters not.
pub record Extends (s t : Scope) : Type 0 where
  pub types : (more : List TypeDef) × (t.types ≡ s.types ++ more)
  pub others : AreAmong s.others t.others
  pub globals : (number : ℕ) (ty : TypeId) → slice_get s.globals number ≡ Some ty → slice_get t.globals number ≡ Some ty
  pub routines : (number : ℕ) (one : Routine) → slice_get s.routines number ≡ Some one → (other : Routine) × (slice_get t.routines number ≡ Some other) × IsFurther one other
