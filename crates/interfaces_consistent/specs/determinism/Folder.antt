-- Why no program was found in the files of a folder.
use Rattle.std.specs.Prelude.{ℕ, List}
use Rattle.interface_soundness.specs.tp_outside.Folder.{Folder}
use Rattle.interface_soundness.specs.typed_tree.declared.units.Program.{Program}
use Rattle.interface_soundness.specs.front_end.declared.outcomes.outcome.Outcome.{Outcome}
use Rattle.interface_soundness.specs.front_end.declared.outcomes.outcome.Outcome.TheVariants as outcome
use Rattle.interface_soundness.specs.front_end.Typed.{IsProgramIn}
use Rattle.interface_soundness.specs.front_end.Untyped.{IsNoProgram}

-- out of memory, or a fault of the files
abbrev pub IsExempt : Outcome → Type 0
IsExempt outcome.FilesFault = Unit {0}
IsExempt outcome.NoMemory = Unit {0}
IsExempt other = ⊥

-- Why no program was found. Where they hold one, no rule is told of.
pub record FoundNone (held : Folder) (name : List ℕ) (result : Outcome) : Type 0 where
  pub why : IsNoProgram held name result
  pub exempt : (program : Program) → IsProgramIn held name program → IsExempt result
