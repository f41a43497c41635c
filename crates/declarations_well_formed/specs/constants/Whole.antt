-- What else holds of constants than that they are values of their types: their types are of whole hosts.
use Rattle.std.specs.Prelude.{◌≡◌, ℕ, true, List, Option, Some}
use Rattle.bodies_well_formed.specs.type_layout.declared.definitions.TypeId.{TypeId}
use Rattle.bodies_well_formed.specs.type_layout.declared.definitions.Host.TheVariants as host
use Rattle.bodies_well_formed.specs.type_layout.declared.definitions.TypeDef.{TypeDef}
use Rattle.bodies_well_formed.specs.type_layout.declared.definitions.TypeDef.TheVariants as type
use Rattle.bodies_well_formed.specs.typed_tree.declared.expressions.Value.{Value}
use Rattle.bodies_well_formed.specs.typed_tree.declared.expressions.Value.TheVariants as value
use Rattle.bodies_well_formed.specs.typed_tree.type_fits.Fits.{definition, IsValue}
use Rattle.bodies_well_formed.specs.scopes.Predeclared.{type_id}
use Rattle.bodies_well_formed.specs.scopes.declared.entries.Entry.{Entry}
use Rattle.bodies_well_formed.specs.scopes.declared.entries.Entry.TheVariants as entry
use Rattle.bodies_well_formed.specs.scopes.Environment.{Environment, named, find}
use Rattle.bodies_well_formed.specs.typing_rules.declared.sorts.SetBase.{SetBase}
use Rattle.bodies_well_formed.specs.typing_rules.declared.sorts.SetBase.TheVariants as over
use Rattle.bodies_well_formed.specs.typing_rules.Sorts.{char, boolean, is_enumeration}
use Rattle.declarations_well_formed.specs.names.Declaring.{HasSet}

-- an enumeration itself, and no subrange of one
pub record IsEnumerated (types : List TypeDef) (ty : TypeId) : Type 0 where
  pub is : is_enumeration (definition types ty) ≡ true
  pub set : HasSet types ty

-- all of a host: Byte of integers, Char, Boolean, or an enumeration
abbrev pub IsHost : List TypeDef → SetBase → TypeId → Type 0
IsHost types over.Integers ty = ty ≡ type_id 1
IsHost types over.Chars ty = ty ≡ char
IsHost types over.Booleans ty = ty ≡ boolean
IsHost types (over.Enumeration of) ty = (ty ≡ of) × IsEnumerated types of
IsHost types over.Any ty = ⊥

-- a set over all of a host, so that two sets of one host have elements within the same bounds
pub record IsWholeSet (types : List TypeDef) (ty : TypeId) : Type 0 where
  pub base : TypeId
  pub host : SetBase
  pub is : definition types ty ≡ Some (type.SetOf base)
  pub whole : IsHost types host base

-- the type of a value of an enumeration is the enumeration
abbrev pub IsWholeOrdinal : List TypeDef → TypeId → Option TypeDef → Type 0
IsWholeOrdinal types ty (Some (type.Ordinal host.Enumeration low high)) = HasSet types ty
IsWholeOrdinal types ty _ = Unit {0}

abbrev pub IsWhole : List TypeDef → TypeId → Value → Type 0
IsWhole types ty (value.Number n) = IsWholeOrdinal types ty (definition types ty)
IsWhole types ty (value.Elements elements) = IsWholeSet types ty
IsWhole types ty _ = Unit {0}

-- of what names mean
abbrev pub IsConstant : List TypeDef → Entry → Type 0
IsConstant types (entry.Const ty v) = IsWhole types ty v
IsConstant types _ = Unit {0}

-- a constant's value is one of its type, which is of a whole host
pub record IsConstantOf (types : List TypeDef) (ty : TypeId) (v : Value) : Type 0 where
  pub value : IsValue types v (definition types ty)
  pub whole : IsWhole types ty v

-- each name that means a constant means such a one
abbrev pub HasConstants : Environment → Type 0
HasConstants g = (name : List ℕ) (number : ℕ) (ty : TypeId) (v : Value) → find g name ≡ Some (named number (entry.Const ty v)) → IsConstantOf g.types.types ty v
