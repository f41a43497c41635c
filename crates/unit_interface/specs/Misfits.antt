-- Types of an interface that can't stand in a table.
use Rattle.std.specs.Prelude.{◌≡◌, ◌⊎◌, ℕ, ◌+◌, ◌<◌, Bool, true, false, not, ◌&&◌, nat_eq, List, Option, Some, None, get_or, slice_get}
use Rattle.type_layout.specs.declared.definitions.TypeId.{TypeId}
use Rattle.type_layout.specs.declared.definitions.Origin.{Origin}
use Rattle.type_layout.specs.declared.definitions.Host.TheVariants as host
use Rattle.type_layout.specs.declared.definitions.TypeDef.{TypeDef}
use Rattle.type_layout.specs.declared.definitions.TypeDef.TheVariants.{Ordinal}
use Rattle.type_layout.specs.Layouts.{size_over}
use Rattle.type_layout.specs.Table.{Table, IsAddable}
use Rattle.unit_interface.specs.declared.merge.MergeError.{MergeError}
use Rattle.unit_interface.specs.declared.merge.MergeError.TheVariants.{Mismatch, NoMemory}
use Rattle.unit_interface.specs.Merge.{key_of, added_type, merged, is_new, ids_in}

-- the types that a table has for the parts of a type are not of the right kind, or the type is too large
abbrev pub IsMisfit : Table → List ℕ → TypeDef → Type 0
IsMisfit table origin one = (IsAddable table origin one → ⊥) ⊎ (65520 < size_over table.types one)

abbrev pub IsMisfitCause : Table → List ℕ → TypeDef → MergeError → Type 0
IsMisfitCause table origin one Mismatch = IsMisfit table origin one
IsMisfitCause table origin one NoMemory = Unit {0}

-- The type of this number of another table is new in a table and can't stand there.
pub record IsUnfit (ids : List TypeId) (table other : Table) (number : ℕ) : Type 0 where
  pub one : TypeDef
  pub origin : Origin
  pub stands : slice_get other.types number ≡ Some one
  pub declared : slice_get other.origins number ≡ Some origin
  pub new : is_new ids table number ≡ true
  pub misfit : IsMisfit table (key_of other.units origin).unit (added_type ids table (key_of other.units origin) one)

-- ---- ordinal types of enumerations, and the sets behind them

abbrev pub is_enumeration : Option TypeDef → Bool
is_enumeration (Some (Ordinal host.Enumeration low high)) = true
is_enumeration _ = false

-- the id that follows another
abbrev pub follows : TypeId → Option TypeId → Bool
follows id None = false
follows id (Some next) = nat_eq next.0 (id.0 + 1)

-- An ordinal type of an enumeration that would be torn from the set behind it: the set's id is not the next one.
abbrev pub is_torn : List TypeId → Table → ℕ → Bool
is_torn ids other number =
    is_enumeration (slice_get other.types number) && not (follows (get_or ids number (record { 0 = number })) (slice_get ids (number + 1)))

-- such a type is new in a table
pub record IsTorn (ids : List TypeId) (table other : Table) (number : ℕ) : Type 0 where
  pub new : is_new ids table number ≡ true
  pub torn : is_torn ids other number ≡ true

-- ---- types of another table

abbrev pub IsOutOfPlace : List TypeId → Table → Table → ℕ → Type 0
IsOutOfPlace ids table other number = IsUnfit ids table other number ⊎ IsTorn ids table other number

abbrev pub IsMisfitAt : List TypeId → Table → Table → ℕ → MergeError → Type 0
IsMisfitAt ids table other number Mismatch = IsOutOfPlace ids table other number
IsMisfitAt ids table other number NoMemory = Unit {0}

-- one of the types of another table can't stand in a table, or would be torn, when those before it were added
pub record IsMisfitting (ids : List TypeId) (table other : Table) : Type 0 where
  pub number : ℕ
  pub unfit : IsOutOfPlace ids (merged other ids table number) other number

abbrev pub IsCause : List TypeId → Table → Table → MergeError → Type 0
IsCause ids table other Mismatch = IsMisfitting ids table other
IsCause ids table other NoMemory = Unit {0}

abbrev pub IsMergeCause : Table → Table → MergeError → Type 0
IsMergeCause table other error = IsCause (ids_in table other) table other error
