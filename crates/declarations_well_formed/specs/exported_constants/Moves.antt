-- What two tables tell alike of a constant's type.
use Rattle.std.specs.Prelude.{◌≡◌, ◌+◌, ℤ, List, Some}
use Rattle.bodies_well_formed.specs.type_layout.declared.definitions.TypeId.{TypeId}
use Rattle.bodies_well_formed.specs.type_layout.declared.definitions.Host.TheVariants as host
use Rattle.bodies_well_formed.specs.type_layout.declared.definitions.TypeDef.{TypeDef}
use Rattle.bodies_well_formed.specs.type_layout.declared.definitions.TypeDef.TheVariants as type
use Rattle.bodies_well_formed.specs.type_layout.Layouts.{bounds_of}
use Rattle.bodies_well_formed.specs.typed_tree.type_fits.Fits.{definition}
use Rattle.bodies_well_formed.specs.scopes.Predeclared.{type_id}
use Rattle.bodies_well_formed.specs.typing_rules.Sorts.{char, boolean}

-- the same type under other ids, as far as constants are of such
abbrev pub IsLike : (TypeId → TypeId) → TypeDef → TypeDef → Type 0
IsLike f (type.Ordinal host low high) other = other ≡ type.Ordinal host low high
IsLike f (type.Str max) other = other ≡ type.Str max
IsLike f (type.SetOf base) other = other ≡ type.SetOf (f base)
IsLike f (type.PointerTo target) other = other ≡ type.PointerTo (f target)
IsLike f one other = Unit {0}

-- a type of one table is there in another
pub record IsTold (b : List TypeDef) (f : TypeId → TypeId) (ty : TypeId) (one : TypeDef) : Type 0 where
  pub other : TypeDef
  pub there : definition b (f ty) ≡ Some other
  pub like : IsLike f one other
  pub bounds : bounds_of (Some other) ≡ bounds_of (Some one)

-- The types of one table that are needed are there in another, under the ids that a function gives; with a set its base, and behind an
-- enumeration the set, which is behind it there too. Those of Byte, Char and Boolean that are needed keep their ids.
pub record AreTold (a b : List TypeDef) (f : TypeId → TypeId) (Needed : TypeId → Type 0) : Type 0 where
  pub told : (ty : TypeId) (one : TypeDef) → Needed ty → definition a ty ≡ Some one → IsTold b f ty one
  pub base : (ty base : TypeId) → Needed ty → definition a ty ≡ Some (type.SetOf base) → Needed base × ((one : TypeDef) × (definition a base ≡ Some one))
  pub behind : (ty : TypeId) (low high : ℤ) → Needed ty → definition a ty ≡ Some (type.Ordinal host.Enumeration low high) → Needed (type_id (ty.0 + 1)) × (f (type_id (ty.0 + 1)) ≡ type_id ((f ty).0 + 1))
  pub byte : Needed (type_id 1) → f (type_id 1) ≡ type_id 1
  pub char : Needed char → f char ≡ char
  pub boolean : Needed boolean → f boolean ≡ boolean
