-- What the types of values say of a typed unit.
use Rattle.std.specs.Prelude.{All}
use Rattle.typed_tree.specs.declared.units.Unit.{Unit}
use Rattle.programs_well_typed.specs.programs.Below.{BeginsWithBytes, IsKeptTable}

-- what its globals begin with is bytes, and its table keeps what every table of types does
pub record IsKept (unit : Unit) : Type 0 where
  pub bytes : All BeginsWithBytes unit.globals
  pub table : IsKeptTable unit.types
