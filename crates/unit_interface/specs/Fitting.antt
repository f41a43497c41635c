-- Whether the types of an interface can stand in a table, as a test.
use Rattle.std.specs.Prelude.{◌≡◌, ℕ, zero, suc, pos, Bool, true, false, not, ◌&&◌, ◌||◌, nat_eq, nat_lt, nat_le, int_le, List, [], ◌∷◌, Option, Some, None, Result, Ok, Err, length, slice_get}
use Rattle.std.specs.List.{list_all}
use Rattle.type_layout.specs.declared.definitions.TypeId.{TypeId}
use Rattle.type_layout.specs.declared.definitions.Field.{Field}
use Rattle.type_layout.specs.declared.definitions.Method.{Method}
use Rattle.type_layout.specs.declared.definitions.TypeDef.{TypeDef}
use Rattle.type_layout.specs.declared.definitions.TypeDef.TheVariants.{Ordinal, Str, SetOf, ArrayOf, RecordOf, PointerTo, ObjectOf, Procedural}
use Rattle.type_layout.specs.declared.definitions.Origin.{Origin}
use Rattle.type_layout.specs.Storage.{least_of, greatest_of}
use Rattle.type_layout.specs.Layouts.{size_over}
use Rattle.type_layout.specs.Table.{Table, place_of}
use Rattle.scopes.specs.Environment.{Environment}
use Rattle.unit_interface.specs.declared.interfaces.Interface.{Interface}
use Rattle.unit_interface.specs.declared.merge.MergeError.{MergeError}
use Rattle.unit_interface.specs.declared.merge.MergeError.TheVariants.{Mismatch, NoMemory}
use Rattle.unit_interface.specs.Merge.{key_of, added_type, is_new, merged, ids_in}
use Rattle.unit_interface.specs.Misfits.{is_torn}
use Rattle.unit_interface.specs.Resolve.{is_overlay, interface_named, with_use}

-- ---- what a table asks of a type

abbrev pub is_ordinal : Option TypeDef → Bool
is_ordinal (Some (Ordinal host low high)) = true
is_ordinal _ = false

abbrev pub is_byte_range : Option TypeDef → Bool
is_byte_range (Some (Ordinal host low high)) = int_le (pos 0) low && int_le high (pos 255)
is_byte_range _ = false

abbrev pub is_object : Option TypeDef → Bool
is_object (Some (ObjectOf parent dynamic fields methods)) = true
is_object _ = false

abbrev pub is_ancestor : List TypeDef → Option TypeId → Bool
is_ancestor types None = true
is_ancestor types (Some parent) = is_object (slice_get types parent.0)

abbrev pub is_known : List TypeDef → Field → Bool
is_known types field = nat_lt field.ty.0 (length types)

abbrev pub is_defined : List TypeDef → TypeDef → Bool
is_defined types (Ordinal host low high) = int_le (least_of host) low && (int_le low high && int_le high (greatest_of host))
is_defined types (Str max) = nat_le 1 max
is_defined types (SetOf base) = is_byte_range (slice_get types base.0)
is_defined types (ArrayOf index element) = is_ordinal (slice_get types index.0) && nat_lt element.0 (length types)
is_defined types (RecordOf fields) = list_all (is_known types) fields
is_defined types (PointerTo target) = true
is_defined types (ObjectOf parent dynamic fields methods) = is_ancestor types parent && list_all (is_known types) fields
is_defined types (Procedural header) = true

abbrev pub is_of_unit : ℕ → Method → Bool
is_of_unit unit method = nat_eq method.routine.unit unit

abbrev pub has_methods : ℕ → TypeDef → Bool
has_methods unit (ObjectOf parent dynamic fields methods) = list_all (is_of_unit unit) methods
has_methods unit _ = true

-- A type can be added to a table, and is not too large there.
abbrev pub stands : Table → List ℕ → TypeDef → Bool
stands table origin one = is_defined table.types one && (has_methods (place_of table.units origin) one && nat_le (size_over table.types one) 65520)

-- ---- types of another table

abbrev pub listed_stands : List TypeId → Table → List (List ℕ) → Option TypeDef → Option Origin → Bool
listed_stands ids table units (Some one) (Some origin) = stands table (key_of units origin).unit (added_type ids table (key_of units origin) one)
listed_stands ids table units _ _ = true

-- The type of this number of another table is there in a table, or can stand in it; the set behind an ordinal type of an
-- enumeration gets the next id.
abbrev pub fits_at : List TypeId → Table → Table → ℕ → Bool
fits_at ids table other number =
    not (is_new ids table number)
    || (not (is_torn ids other number) && listed_stands ids table other.units (slice_get other.types number) (slice_get other.origins number))

-- so it is for the first types of the other table, each after those before it
abbrev pub fit_first : List TypeId → Table → Table → ℕ → Bool
fit_first ids table other zero = true
fit_first ids table other (suc number) = fit_first ids table other number && fits_at ids (merged other ids table number) other number

-- and for all of them
abbrev pub types_fit : Table → Table → Bool
types_fit table other = fit_first (ids_in table other) table other (length other.types)

-- ---- used units

abbrev pub found_fits : Environment → Option Interface → Bool
found_fits environment None = true
found_fits environment (Some interface) = types_fit environment.types interface.types

-- The types that a used unit shows fit those of a scope.
abbrev pub use_fits : List Interface → Environment → List ℕ → Bool
use_fits have environment name = is_overlay name || found_fits environment (interface_named have name)

-- so it is for used units, each behind those before it
abbrev pub uses_fit : List Interface → Environment → List (List ℕ) → Bool
uses_fit have environment [] = true
uses_fit have environment (name ∷ names) = use_fits have environment name && uses_fit have (with_use have environment name) names

-- what is answered where they fit, and where they don't
abbrev pub TellsFit : Bool → Result (Unit {0}) MergeError → Type 0
TellsFit fits (Ok done) = fits ≡ true
TellsFit fits (Err Mismatch) = fits ≡ false
TellsFit fits (Err NoMemory) = Unit {0}
