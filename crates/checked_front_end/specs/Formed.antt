-- Programs that are well-typed, of units that are well formed.
use Rattle.std.specs.Prelude.{ℕ, All, List}
use Rattle.tp_outside.specs.Folder.{Folder}
use Rattle.typed_tree.specs.declared.units.Program.{Program}
use Rattle.programs_well_typed.specs.well_formed.WellFormed.{IsWellFormed}
use Rattle.programs_well_typed.specs.program_typing.programs.WellTyped.{IsWellTyped}
use Rattle.token_provenance.specs.leaves.Written.{AreTexts}
use Rattle.front_end.specs.declared.program.TypedSources.{TypedSources}
use Rattle.front_end.specs.Found.{IsFoundIn}
use Rattle.checked_front_end.specs.Known.{IsKept}
use Rattle.checked_front_end.specs.Numbers.{IsRoomyThen, IsNumbered}

-- What later parts may rely on holds in each unit, and together they never come to an ill-typed step.
pub record AreFormed (program : Program) : Type 0 where
  pub units : All IsWellFormed program.units
  pub typed : IsWellTyped program

-- Where the files of a folder hold a program, so is that, if the numbers of what it declares are held.
abbrev pub FormedLaw : Type 0
FormedLaw = (held : Folder) (name : List ℕ) (found : TypedSources) → IsFoundIn held name found → AreTexts found.texts.items → All IsKept found.program.units
    → IsNumbered found → All IsRoomyThen found.program.units → AreFormed found.program
