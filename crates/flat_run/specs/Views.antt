-- The interpreter's activations and callees as values.
use Rattle.flat_run.specs.declared.program.Callee.{Callee}
use Rattle.flat_run.specs.declared.value.Activation.{Activation}
use Rattle.flat_code.specs.Program.{Key}
use Rattle.flat_code.specs.Meaning.{Frame}

abbrev pub view_callee : Callee → Key
view_callee callee = record { unit = callee.name.now; number = callee.number }

-- an activation as the interpreter keeps it
abbrev pub view_frame : Activation → Frame
view_frame f = record { unit = f.name.now; names = f.names.now; bp = f.bp; link = f.link; sp = f.sp; sum = f.sum }
