-- The variables of a routine by their numbers, and what a main or initialisation part is.
use Rattle.std.specs.Prelude.{◌≡◌, ℕ, true, List, [], ◌∷◌, ◌++◌, map, Option, Some, None, slice_get}
use Rattle.type_layout.specs.declared.definitions.TypeId.{TypeId}
use Rattle.type_layout.specs.declared.definitions.Kind.TheVariants as kind
use Rattle.type_layout.specs.declared.definitions.Param.{Param}
use Rattle.typed_tree.specs.declared.units.Routine.{Routine}

abbrev pub listed : Option TypeId → List TypeId
listed None = []
listed (Some ty) = ty ∷ []

-- the types of a routine's variables in the order of their numbers: parameters, Self of a method, the result of a
-- function, and what the routine declares
abbrev pub variables_of : Routine → List TypeId
variables_of routine =
    map (λ (param : Param). param.ty) routine.header.params ++ (listed routine.owner ++ (listed routine.header.result ++ routine.locals))

-- a main or initialisation part: a far procedure without parameters
pub record IsInitial (routine : Routine) : Type 0 where
  pub kind : routine.header.kind ≡ kind.Procedure
  pub bare : routine.header.params ≡ []
  pub far : routine.far ≡ true
  pub free : routine.owner ≡ None
  pub outermost : routine.outer ≡ None

abbrev pub HasInitial : List Routine → Option ℕ → Type 0
HasInitial routines None = Unit {0}
HasInitial routines (Some number) = (routine : Routine) × (slice_get routines number ≡ Some routine) × IsInitial routine
