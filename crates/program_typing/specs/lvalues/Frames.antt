-- Activations whose variables were made with the types of their routines.
use Rattle.std.specs.Prelude.{◌≡◌, ℕ, ◌+◌, ◌<◌, ◌^◌, Bool, true, false, List, [], ◌∷◌, length, slice_get, Option, Some, None}
use Rattle.well_formed.specs.type_layout.declared.definitions.TypeId.{TypeId}
use Rattle.well_formed.specs.typed_tree.declared.expressions.Variable.{Variable}
use Rattle.well_formed.specs.typed_tree.declared.units.Unit.{Unit as TypedUnit}
use Rattle.well_formed.specs.typed_tree.declared.units.Program.{Program}
use Rattle.well_formed.specs.typed_tree.type_fits.Routines.{variables_of}
use Rattle.store_typing.specs.tp_meaning.Trees.{Key}
use Rattle.store_typing.specs.tp_meaning.Programs.{Sort, sort_in, global_serial, global_sort, key_of}
use Rattle.store_typing.specs.tp_meaning.Activations.{Reached, Level, Activation, is_alias}
use Rattle.store_typing.specs.types.Agreement.{IsUnit, IsKnown}
use Rattle.store_typing.specs.stores.Worlds.{Made, Own, Alias, World}
use Rattle.store_typing.specs.stores.Places.{IsSeenAs, IsAt}

-- what a variable was made as: variable parameters and Self stand for places
abbrev pub made_as : Bool → Sort → Made
made_as true sort = Alias sort
made_as false sort = Own sort

-- the variables of an activation, from its first on
pub record IsLevel (w : World) (unit : TypedUnit) (level : Level) : Type 0 where
  pub few : length (variables_of level.routine) < 2 ^ 31
  pub variables : (number : ℕ) (ty : TypeId) → slice_get (variables_of level.routine) number ≡ Some ty
      → IsKnown w.program (sort_in unit ty) × (slice_get w.made (level.first + number) ≡ Some (made_as (is_alias level.routine number) (sort_in unit ty)))

-- the activations of a routine with a number and of those round it
abbrev pub AreLevels : World → TypedUnit → Option ℕ → List Level → Type 0
AreLevels w unit None [] = Unit {0}
AreLevels w unit (Some number) (level ∷ levels) =
    (level.number ≡ number) × (slice_get unit.routines number ≡ Some level.routine) × IsLevel w unit level × AreLevels w unit level.routine.outer levels
AreLevels w unit number levels = ⊥

-- the places that the open `with`s hold
abbrev pub AreHeld : World → TypedUnit → List TypeId → List Reached → Type 0
AreHeld w unit [] [] = Unit {0}
AreHeld w unit (ty ∷ tys) (at ∷ ats) = IsAt w at (sort_in unit ty) × AreHeld w unit tys ats
AreHeld w unit _ _ = ⊥

-- the globals of the program, the variable of the unit Overlay among them
pub record HasGlobals (w : World) : Type 0 where
  pub globals : (key : Key) (sort : Sort) → global_sort w.program key ≡ Some sort → slice_get w.made (global_serial w.program key) ≡ Some (Own sort)

-- A body's activation: its unit is one of the program, its levels are those of a routine, and so are its withs.
pub record IsActive (w : World) (f : Activation) (number : ℕ) (withs : List TypeId) : Type 0 where
  pub listed : IsUnit w.program f.unit
  pub levels : AreLevels w f.unit (Some number) f.levels
  pub held : AreHeld w f.unit withs f.withs
  pub globals : HasGlobals w

-- a global of the unit itself or of another, which has the type that the unit says
pub record IsGlobalOf (program : Program) (unit : TypedUnit) (place number : ℕ) (ty : TypeId) : Type 0 where
  pub key : Key
  pub names : key_of unit place number ≡ Some key
  pub sort : Sort
  pub is : global_sort program key ≡ Some sort
  pub seen : IsSeenAs program sort (sort_in unit ty)

-- what a program says of a global that a variable names; of other variables nothing
abbrev pub NamesGlobal : Program → TypedUnit → Variable → TypeId → Type 0
NamesGlobal program unit variable ty = variable.level ≡ 0 → IsGlobalOf program unit variable.unit variable.number ty
