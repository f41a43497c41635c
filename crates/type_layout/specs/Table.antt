-- A table of types.
use Rattle.std.specs.Prelude.{◌≡◌, ℕ, ◌^◌, ◌<◌, ◌≤◌, pos, ◌≤ℤ◌, List, [], ◌∷◌, ◌++◌, All, Option, Some, None, length, slice_get, position, unwrap_or, cond, is_some}
use Rattle.type_layout.specs.declared.definitions.TypeId.{TypeId}
use Rattle.type_layout.specs.declared.definitions.TypeDef.{TypeDef}
use Rattle.type_layout.specs.declared.definitions.TypeDef.TheVariants.{Ordinal, Str, SetOf, ArrayOf, RecordOf, PointerTo, ObjectOf, Procedural}
use Rattle.type_layout.specs.declared.definitions.Origin.{Origin}
use Rattle.type_layout.specs.declared.layout.Layout.{Layout}
use Rattle.type_layout.specs.Words.{same_bytes}
use Rattle.type_layout.specs.Storage.{least_of, greatest_of}
use Rattle.type_layout.specs.Layouts.{layouts_of}

-- the types by their ids, where each was declared, and the units that the origins name
pub record Table : Type 0 where
  pub types : List TypeDef
  pub origins : List Origin
  pub units : List (List ℕ)

abbrev pub IsOrdinal : Option TypeDef → Type 0
IsOrdinal (Some (Ordinal host low high)) = Unit {0}
IsOrdinal _ = ⊥

-- an ordinal type within 0..255
abbrev pub IsByteRange : Option TypeDef → Type 0
IsByteRange (Some (Ordinal host low high)) = (pos 0 ≤ℤ low) × (high ≤ℤ pos 255)
IsByteRange _ = ⊥

abbrev pub IsObject : Option TypeDef → Type 0
IsObject (Some (ObjectOf parent dynamic fields methods)) = Unit {0}
IsObject _ = ⊥

abbrev pub IsAncestor : List TypeDef → Option TypeId → Type 0
IsAncestor types None = Unit {0}
IsAncestor types (Some parent) = IsObject (slice_get types parent.0)

-- a type whose parts by value stand among the types before it
abbrev pub IsDefinedOver : List TypeDef → TypeDef → Type 0
IsDefinedOver types (Ordinal host low high) = (least_of host ≤ℤ low) × (low ≤ℤ high) × (high ≤ℤ greatest_of host)
IsDefinedOver types (Str max) = 1 ≤ max
IsDefinedOver types (SetOf base) = IsByteRange (slice_get types base.0)
IsDefinedOver types (ArrayOf index element) = IsOrdinal (slice_get types index.0) × (element.0 < length types)
IsDefinedOver types (RecordOf fields) = All (λ field. field.ty.0 < length types) fields
IsDefinedOver types (PointerTo target) = Unit {0}
IsDefinedOver types (ObjectOf parent dynamic fields methods) =
    IsAncestor types parent × All (λ field. field.ty.0 < length types) fields
IsDefinedOver types (Procedural header) = Unit {0}

-- each type of a list is defined over those before it
abbrev pub AllDefined : List TypeDef → List TypeDef → Type 0
AllDefined before [] = Unit {0}
AllDefined before (one ∷ rest) = IsDefinedOver before one × AllDefined (before ++ one ∷ []) rest

-- What holds of every table: the parts by value of a type have smaller ids and are of the right kind,
-- no size passes the limit, and each type has an origin in a unit of the table.
pub record IsWellFormed (table : Table) : Type 0 where
  pub defined : AllDefined [] table.types
  pub fits : All (λ layout. layout.size ≤ 65520) (layouts_of table.types)
  pub origins : length table.origins ≡ length table.types
  pub known : All (λ origin. origin.unit < length table.units) table.origins
  pub few : length table.types < 2 ^ 32
  pub few_units : length table.units < 2 ^ 32

-- what the struct keeps: a well-formed table, and beside each type its layout
pub record IsKept (table : Table) (layouts : List Layout) : Type 0 where
  pub well_formed : IsWellFormed table
  pub measured : layouts ≡ layouts_of table.types

-- the place of a unit among the units, the next one where it is new
abbrev pub place_of : List (List ℕ) → List ℕ → ℕ
place_of units unit = unwrap_or (position (same_bytes unit) units) (length units)

abbrev pub with_unit : List (List ℕ) → List ℕ → List (List ℕ)
with_unit units unit = cond (is_some (position (same_bytes unit) units)) units (units ++ unit ∷ [])

-- the routines of an object's methods are of the unit at this place
abbrev pub HasMethodsOf : ℕ → TypeDef → Type 0
HasMethodsOf unit (ObjectOf parent dynamic fields methods) = All (λ method. method.routine.unit ≡ unit) methods
HasMethodsOf unit _ = Unit {0}

-- what a table asks of a type that is added to it
pub record IsAddable (table : Table) (origin : List ℕ) (one : TypeDef) : Type 0 where
  pub defined : IsDefinedOver table.types one
  pub methods : HasMethodsOf (place_of table.units origin) one

-- a table after a type was added
abbrev pub with_type : Table → List ℕ → ℕ → TypeDef → Table
with_type table origin number one = record {
  types = table.types ++ one ∷ [];
  origins = table.origins ++ (record { unit = place_of table.units origin; number = number }) ∷ [];
  units = with_unit table.units origin;
}
