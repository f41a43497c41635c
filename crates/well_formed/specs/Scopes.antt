-- What the nodes of a routine may name.
use Rattle.std.specs.Prelude.{◌≡◌, ◌⊎◌, ℕ, zero, suc, ◌-◌, ◌≤◌, ◌^◌, Bool, false, codes, List, [], ◌∷◌, Option, Some, None, get_or, slice_get}
use Rattle.type_layout.specs.declared.definitions.TypeId.{TypeId}
use Rattle.type_layout.specs.declared.definitions.RoutineId.{RoutineId}
use Rattle.type_layout.specs.declared.definitions.Header.{Header}
use Rattle.type_layout.specs.declared.definitions.TypeDef.{TypeDef}
use Rattle.type_layout.specs.Words.{same_bytes}
use Rattle.typed_tree.specs.declared.expressions.Variable.{Variable}
use Rattle.typed_tree.specs.declared.units.Routine.{Routine}
use Rattle.typed_tree.specs.type_fits.Fits.{IsSome, definition}
use Rattle.typed_tree.specs.type_fits.Routines.{variables_of}

-- one of the members of a list
abbrev pub IsOneOf : {A : Type 0} → A → List A → Type 0
IsOneOf one all = (place : ℕ) × (slice_get all place ≡ Some one)

-- ---- what is seen of a routine where it is called

pub record Prototype : Type 0 where
  pub header : Header
  -- the object type of a method, and the routine that it is declared in
  pub owner : Option TypeId
  pub outer : Option ℕ
  pub far : Bool

abbrev pub prototype : Routine → Prototype
prototype routine = record { header = routine.header; owner = routine.owner; outer = routine.outer; far = routine.far }

-- ---- what a unit supposes of others

-- a variable with its type, by the place of its unit among the names of units, and its number there
pub record OtherGlobal : Type 0 where
  pub unit : ℕ
  pub number : ℕ
  pub ty : TypeId

-- a routine with what is seen of it
pub record OtherRoutine : Type 0 where
  pub routine : RoutineId
  pub seen : Prototype

-- the name of a unit, by its place among the names of units
pub record OtherUnit : Type 0 where
  pub number : ℕ
  pub name : List ℕ

pub record Others : Type 0 where
  pub units : List OtherUnit
  pub globals : List OtherGlobal
  pub routines : List OtherRoutine

-- ---- scopes

pub record Scope : Type 0 where
  pub types : List TypeDef
  -- what is supposed of other units
  pub others : Others
  -- the types of the unit's own globals, and its own routines
  pub globals : List TypeId
  pub routines : List Routine
  -- the numbers of the routine itself, and of those round it
  pub around : List ℕ
  -- the types of their variables
  pub levels : List (List TypeId)
  -- the types of what the open `with`s hold, the outermost first
  pub withs : List TypeId

abbrev pub HasType : Scope → TypeId → Type 0
HasType s ty = IsSome (definition s.types ty)

-- the type of a result, which a procedure does not have
abbrev pub HasResult : Scope → Option TypeId → Type 0
HasResult s None = Unit {0}
HasResult s (Some ty) = HasType s ty

-- ---- units

-- the unit itself, or another whose name is known
abbrev pub IsNamed : Scope → ℕ → Type 0
IsNamed s zero = Unit {0}
IsNamed s (suc unit) = (name : List ℕ) × IsOneOf (record { number = suc unit; name = name }) s.others.units

-- the unit itself, or another that a source has: the unit Overlay comes without one
abbrev pub IsOfSource : Scope → ℕ → Type 0
IsOfSource s zero = Unit {0}
IsOfSource s (suc unit) = (name : List ℕ) × IsOneOf (record { number = suc unit; name = name }) s.others.units × (same_bytes name (codes "OVERLAY") ≡ false)

-- ---- variables

-- a global of the unit itself, or one that is supposed of another
abbrev pub IsGlobal : Scope → ℕ → ℕ → TypeId → Type 0
IsGlobal s zero number ty = slice_get s.globals number ≡ Some ty
IsGlobal s (suc unit) number ty = IsOneOf (record { unit = suc unit; number = number; ty = ty }) s.others.globals

abbrev pub IsVariableOf : Scope → ℕ → ℕ → TypeId → Type 0
IsVariableOf s level number ty = slice_get (get_or s.levels level []) number ≡ Some ty

-- what an open `with` holds
pub record IsHeld (s : Scope) (number : ℕ) (ty : TypeId) : Type 0 where
  pub high : 2 ^ 31 ≤ number
  pub held : slice_get s.withs (number - 2 ^ 31) ≡ Some ty

abbrev pub IsVariableAt : Scope → ℕ → ℕ → ℕ → TypeId → Type 0
IsVariableAt s zero unit number ty = IsGlobal s unit number ty
IsVariableAt s (suc zero) unit number ty = IsVariableOf s 0 number ty ⊎ IsHeld s number ty
IsVariableAt s (suc (suc links)) unit number ty = IsVariableOf s (suc links) number ty

abbrev pub HasVariable : Scope → Variable → TypeId → Type 0
HasVariable s variable ty = HasType s ty × IsVariableAt s variable.level variable.unit variable.number ty

-- ---- routines

-- a routine of the unit itself that is as asked, or one that is supposed so of another unit
abbrev pub IsRoutineAt : (Prototype → Type 0) → Scope → ℕ → ℕ → Type 0
IsRoutineAt Asked s zero number = (routine : Routine) × (slice_get s.routines number ≡ Some routine) × Asked (prototype routine)
IsRoutineAt Asked s (suc unit) number =
    (seen : Prototype) × IsOneOf (record { routine = record { unit = suc unit; number = number }; seen = seen }) s.others.routines × Asked seen

abbrev pub HasRoutine : (Prototype → Type 0) → Scope → RoutineId → Type 0
HasRoutine Asked s routine = IsRoutineAt Asked s routine.unit routine.number

-- a routine that is declared in no other, or in one of these
abbrev pub IsWithin : List ℕ → Option ℕ → Type 0
IsWithin around None = Unit {0}
IsWithin around (Some outer) = IsOneOf outer around

-- The routines round the one with a number, itself first, and at most so many; the number of an outer routine is below that of an inner.
abbrev pub with_outer : ℕ → (Option ℕ → List ℕ) → Option Routine → List ℕ
with_outer number further None = []
with_outer number further (Some routine) = number ∷ further routine.outer

abbrev pub around_from : List Routine → ℕ → Option ℕ → List ℕ
around_from routines zero number = []
around_from routines (suc most) None = []
around_from routines (suc most) (Some number) = with_outer number (λ outer. around_from routines most outer) (slice_get routines number)

-- the variables of a routine, and of those round it
abbrev pub levels_of : (Option ℕ → List (List TypeId)) → Option Routine → List (List TypeId)
levels_of around None = []
levels_of around (Some routine) = variables_of routine ∷ around routine.outer

-- the same of the routine with a number, and of at most so many
abbrev pub levels_from : List Routine → ℕ → Option ℕ → List (List TypeId)
levels_from routines zero number = []
levels_from routines (suc most) None = []
levels_from routines (suc most) (Some number) = levels_of (λ outer. levels_from routines most outer) (slice_get routines number)
