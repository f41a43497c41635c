-- When a table knows the types of another one as they are.
use Rattle.std.specs.Prelude.{◌≡◌, ℕ, ◌+◌, ◌<◌, length, ℤ, true, false, List, [], ◌∷◌, Some, slice_get, get_or}
use Rattle.bodies_well_formed.specs.type_layout.declared.definitions.TypeId.{TypeId}
use Rattle.bodies_well_formed.specs.type_layout.declared.definitions.Host.TheVariants as host
use Rattle.bodies_well_formed.specs.type_layout.declared.definitions.TypeDef.{TypeDef}
use Rattle.bodies_well_formed.specs.type_layout.declared.definitions.TypeDef.TheVariants as type
use Rattle.bodies_well_formed.specs.type_layout.Table.{Table}
use Rattle.bodies_well_formed.specs.typed_tree.declared.units.Item.{Item}
use Rattle.bodies_well_formed.specs.typed_tree.declared.units.Item.TheVariants as item
use Rattle.imported_types_agree.specs.unit_interface.Merge.{new_id, renumbered, ids_in, is_new, merged}
use Rattle.declarations_well_formed.specs.constants.Whole.{IsConstantOf}
use Rattle.bodies_well_formed.specs.typed_tree.type_fits.Fits.{definition}
use Rattle.bodies_well_formed.specs.scopes.Predeclared.{type_id}
use Rattle.bodies_well_formed.specs.typing_rules.Sorts.{char, boolean}
use Rattle.bodies_well_formed.specs.typed_tree.declared.units.Unit.{Unit as TypedUnit}
use Rattle.imported_types_agree.specs.unit_interface.declared.interfaces.Interface.{Interface}
use Rattle.imported_types_agree.specs.unit_interface.Exports.{is_in, new_ids}

-- a type of another table stands in a list of types under an id, with the new ids of what it names
pub record IsThere (ids : List TypeId) (types : List TypeDef) (id : TypeId) (one : TypeDef) : Type 0 where
  pub unit : ℕ
  pub at : slice_get types id.0 ≡ Some (renumbered ids unit one)

-- a type of the other table that isn't new when it comes in is there already, the same under new ids
abbrev pub IsKnownAlike : Table → Table → Type 0
IsKnownAlike table other = (number : ℕ) (one : TypeDef) (d : TypeId) → slice_get other.types number ≡ Some one → is_new (ids_in table other) (merged other (ids_in table other) table number) number ≡ false
    → IsThere (ids_in table other) (merged other (ids_in table other) table number).types (get_or (ids_in table other) number d) one

-- the set behind an enumeration has the next id
abbrev pub AreBeside : Table → Table → Type 0
AreBeside table other = (number : ℕ) (low high : ℤ) (d e : TypeId) → slice_get other.types number ≡ Some (type.Ordinal host.Enumeration low high)
    → (get_or (ids_in table other) (number + 1) e).0 ≡ (get_or (ids_in table other) number d).0 + 1

-- ---- the tables

-- beside each type stands its origin
abbrev pub IsPaired : Table → Type 0
IsPaired table = length table.origins ≡ length table.types

-- the base of each set is in the table, and behind each enumeration a further type
pub record IsWhole (types : List TypeDef) : Type 0 where
  pub based : (ty base : TypeId) → definition types ty ≡ Some (type.SetOf base) → base.0 < length types
  pub followed : (number : ℕ) (low high : ℤ) → slice_get types number ≡ Some (type.Ordinal host.Enumeration low high) → number + 1 < length types

-- the ids that two renumberings give one after the other
abbrev pub twice : List TypeId → List TypeId → TypeId → TypeId
twice ids kids ty = new_id ids (new_id kids ty)

-- those of Byte, Char and Boolean that are reached have the ids that they have in each table
pub record AreFixed (reached : List ℕ) (ids kids : List TypeId) : Type 0 where
  pub byte : is_in reached 1 ≡ true → twice ids kids (type_id 1) ≡ type_id 1
  pub chars : is_in reached char.0 ≡ true → twice ids kids char ≡ char
  pub truths : is_in reached boolean.0 ≡ true → twice ids kids boolean ≡ boolean

-- A table into which the interface of a unit comes: it has what it knows of the interface's types as they are.
pub record IsKnownOf (unit : TypedUnit) (i : Interface) (reached : List ℕ) (table : Table) : Type 0 where
  pub alike : IsKnownAlike table i.types
  pub beside : AreBeside table i.types
  pub fixed : AreFixed reached (ids_in table i.types) (new_ids reached (length unit.types.types))

-- ---- constants

-- each constant is a value of the type that a table has for its type
abbrev pub AreConstantsIn : List TypeDef → List TypeId → List Item → Type 0
AreConstantsIn types ids [] = Unit {0}
AreConstantsIn types ids (item.Const name ty v ∷ rest) = IsConstantOf types (new_id ids ty) v × AreConstantsIn types ids rest
AreConstantsIn types ids (one ∷ rest) = AreConstantsIn types ids rest

-- and those of a unit are values of their own types
abbrev pub AreOwnConstants : List TypeDef → List Item → Type 0
AreOwnConstants types [] = Unit {0}
AreOwnConstants types (item.Const name ty v ∷ rest) = IsConstantOf types ty v × AreOwnConstants types rest
AreOwnConstants types (one ∷ rest) = AreOwnConstants types rest
