-- What is never seen of a well-typed program.
use Rattle.program_typing.specs.typed_tree.declared.units.Program.{Program}
use Rattle.program_typing.specs.tp_meaning.Meaning.{IsNeverStopped}
use Rattle.program_typing.specs.tp_meaning.ShownCalls.{Boxed}
use Rattle.program_typing.specs.programs.WellTyped.{IsWellTyped}
use Rattle.program_typing.specs.programs.Example.{counting_program}

-- On no input of bytes, and within no number of turns, does a well-typed program come to a step of which the meaning says nothing.
abbrev pub TypedProgramsNeverStop : Type 0
TypedProgramsNeverStop = (program : Program) → IsWellTyped program → IsNeverStopped program

-- So it is with a program that adds 1 to its variable.
abbrev pub CountingNeverStops : Type 0
CountingNeverStops = (b : Boxed) → IsNeverStopped (counting_program b)
