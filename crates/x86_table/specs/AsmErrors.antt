-- What the errors of the assembler say.
use Rattle.x86_table.specs.declared.assembly.AsmError.{AsmError}
use Rattle.x86_table.specs.declared.assembly.AsmError.TheVariants.{JumpTooFar, NoMemory}
use Rattle.std.specs.Prelude.{List}
use Rattle.x86_table.specs.declared.line.Line.{Line}
use Rattle.x86_table.specs.Lines.{IsTooFar}

-- the named line is a short jump that does not reach, by the named distance
abbrev pub IsCause : List Line → AsmError → Type 0
IsCause lines (JumpTooFar number distance) = IsTooFar lines number distance
IsCause lines NoMemory = Unit {0}
