-- Why a unit has no object unit.
use Rattle.flat_code.specs.declared.unit.FlatUnit.{FlatUnit}
use Rattle.codegen_8086.specs.declared.error.GenError.{GenError}
use Rattle.codegen_8086.specs.declared.error.GenError.TheVariants.{CodeTooLarge, NoMemory}
use Rattle.codegen_8086.specs.object_code.Objects.{IsTooLarge}

abbrev pub IsCause : FlatUnit → GenError → Type 0
IsCause unit (CodeTooLarge bytes) = IsTooLarge unit bytes
IsCause unit NoMemory = Unit {0}
