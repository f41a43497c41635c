-- What the code of the runtime's routines asks for is there, as placed programs want it.
use Rattle.std.specs.Prelude.{◌≡◌, true, Some, List}
use Rattle.flat_code.specs.Tree.{Code}
use Rattle.flat_code.specs.Program.{Name, Key, Routine, UnitCode, FlatProgram, routine_of}
use Rattle.code_simulation.specs.bodies.Expressible.{CodeIsExpressible, HasNoThrough}
use Rattle.runtime_units.specs.Units.{IsRuntimeUnit}
use Rattle.runtime_units.specs.PlainCode.{is_plain}

-- code that passes the runtime's test asks for nothing that isn't there, and calls nothing through pointers, in whatever unit it stands
abbrev pub PlainIsExpressible : Type 0
PlainIsExpressible = (program : FlatProgram) (own : Name) (names : List Name) (code : Code) → is_plain code ≡ true → CodeIsExpressible program own names code × HasNoThrough code

abbrev pub RuntimeIsExpressible : FlatProgram → Type 0
RuntimeIsExpressible program =
    (key : Key) (unit : UnitCode) (r : Routine) → IsRuntimeUnit key.unit → program.unit key.unit ≡ Some unit → routine_of program key ≡ Some r →
    CodeIsExpressible program key.unit unit.names r.body × HasNoThrough r.body
