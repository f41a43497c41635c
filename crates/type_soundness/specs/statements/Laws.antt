-- Tasks that do no ill-typed step.
use Rattle.program_typing.specs.typed_tree.declared.units.Program.{Program}
use Rattle.program_typing.specs.tp_meaning.Calls.{Runs}
use Rattle.program_typing.specs.tp_meaning.Statements.{task}
use Rattle.program_typing.specs.programs.WellTyped.{IsWellTyped}
use Rattle.program_typing.specs.programs.Tasks.{AreSound}
use Rattle.program_typing.specs.programs.Calls.{HasSoundCalls}

-- Statements, and the turns that a `for` has left, do no ill-typed step where tasks with fewer turns do none.
abbrev pub TasksAreSound : Type 0
TasksAreSound = (program : Program) (again : Runs) → IsWellTyped program → HasSoundCalls program again → AreSound program again → AreSound program (task program again)
