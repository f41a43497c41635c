-- Routines that are called, with arguments as they take them.
use Rattle.std.specs.Prelude.{◌≡◌, ℕ, Bool, true, false, List, [], ◌∷◌, ◌++◌, map, slice_get, Option, Some, None}
use Rattle.well_formed.specs.type_layout.declared.definitions.TypeId.{TypeId}
use Rattle.well_formed.specs.type_layout.declared.definitions.Param.{Param}
use Rattle.well_formed.specs.typed_tree.declared.units.Routine.{Routine}
use Rattle.well_formed.specs.typed_tree.declared.units.Unit.{Unit as TypedUnit}
use Rattle.well_formed.specs.typed_tree.type_fits.Routines.{listed, variables_of}
use Rattle.store_typing.specs.tp_meaning.Trees.{Spot, Value, At}
use Rattle.store_typing.specs.tp_meaning.Programs.{Sort, sort_in}
use Rattle.store_typing.specs.tp_meaning.Activations.{Callee}
use Rattle.store_typing.specs.types.Agreement.{IsKnown}
use Rattle.store_typing.specs.stores.Worlds.{Made, Own, Alias, World}
use Rattle.store_typing.specs.stores.Places.{IsPlaceOf, IsValueOf}
use Rattle.program_typing.specs.lvalues.Frames.{made_as}

-- a variable parameter takes a place of its type, and any other a value
abbrev pub IsTaken : World → Sort → Bool → Value → Type 0
IsTaken w sort true v = (spot : Spot) × (v ≡ At spot) × IsPlaceOf w spot sort
IsTaken w sort false v = IsValueOf w sort v

abbrev pub AreTaken : World → TypedUnit → List Param → List Value → Type 0
AreTaken w unit [] [] = Unit {0}
AreTaken w unit (param ∷ params) (v ∷ vs) = IsTaken w (sort_in unit param.ty) param.by_ref v × AreTaken w unit params vs
AreTaken w unit _ _ = ⊥

-- a method has an instance of its type, and no other routine has one
abbrev pub IsSelf : World → TypedUnit → Option TypeId → Option Spot → Type 0
IsSelf w unit None None = Unit {0}
IsSelf w unit (Some owner) (Some spot) = IsPlaceOf w spot (sort_in unit owner)
IsSelf w unit _ _ = ⊥

-- the types of a routine's variables are in the table of its unit
pub record HasTypes (w : World) (callee : Callee) : Type 0 where
  pub known : (number : ℕ) (ty : TypeId) → slice_get (variables_of callee.routine) number ≡ Some ty → IsKnown w.program (sort_in callee.unit ty)

-- what the variables of a routine are made as, in the order of their numbers
abbrev pub params_made : TypedUnit → List Param → List Made
params_made unit params = map (λ (param : Param). made_as param.by_ref (sort_in unit param.ty)) params

abbrev pub self_made : TypedUnit → Option TypeId → List Made
self_made unit owner = map (λ (ty : TypeId). Alias (sort_in unit ty)) (listed owner)

abbrev pub own_made : TypedUnit → List TypeId → List Made
own_made unit tys = map (λ (ty : TypeId). Own (sort_in unit ty)) tys

abbrev pub variables_made : TypedUnit → Routine → List Made
variables_made unit routine = params_made unit routine.header.params ++ (self_made unit routine.owner ++ (own_made unit (listed routine.header.result) ++ own_made unit routine.locals))
