-- Tables in which no two types come from one declaration.
use Rattle.std.specs.Prelude.{◌≡◌, ℕ, ◌<◌, All, Some, length, slice_get}
use Rattle.type_layout.specs.declared.definitions.Origin.{Origin}
use Rattle.type_layout.specs.Table.{Table}
use Rattle.unit_interface.specs.declared.keys.Key.{Key}
use Rattle.unit_interface.specs.Merge.{keys_of}

-- Each type of a table has an origin in a unit of the table, and no two types have the same unit and number: so those that
-- come from one declaration are one type.
pub record IsKeyed (table : Table) : Type 0 where
  pub paired : length table.origins ≡ length table.types
  pub known : All (λ (origin : Origin). origin.unit < length table.units) table.origins
  pub apart : (one other : ℕ) (key : Key) → slice_get (keys_of table) one ≡ Some key → slice_get (keys_of table) other ≡ Some key
      → one ≡ other
