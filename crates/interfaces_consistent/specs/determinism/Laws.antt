-- The one program that the files of a folder hold.
use Rattle.std.specs.Prelude.{ℕ, List}
use Rattle.interface_soundness.specs.tp_outside.Folder.{Folder}
use Rattle.interface_soundness.specs.typed_tree.declared.units.Program.{Program}
use Rattle.interface_soundness.specs.source_graph.declared.sources.Source.{Source}
use Rattle.interface_soundness.specs.front_end.declared.outcomes.outcome.Outcome.{Outcome}
use Rattle.interface_soundness.specs.front_end.Typed.{IsProgram, IsProgramIn}
use Rattle.interface_soundness.specs.front_end.Untyped.{IsNoProgram}
use Rattle.interface_soundness.specs.source_graph.determinism.Alike.{AreAlike}
use Rattle.interface_soundness.specs.address_independence.congruence.Laws.{IsSame}
use Rattle.interfaces_consistent.specs.determinism.Folder.{IsExempt}

-- Sources that are alike are the same programs.
abbrev pub SourcesAlike : Type 0
SourcesAlike = (sources others : List Source) → AreAlike sources others → (program : Program) → IsProgram sources program → IsProgram others program

-- The files of a folder hold one program of a name at most.
abbrev pub OneFolder : Type 0
OneFolder = (held : Folder) (name : List ℕ) (one other : Program) → IsProgramIn held name one → IsProgramIn held name other → IsSame one other

-- Where they hold one, no rule is told of in its place.
abbrev pub NeverRefused : Type 0
NeverRefused = (held : Folder) (name : List ℕ) (program : Program) → IsProgramIn held name program → (result : Outcome) → IsNoProgram held name result → IsExempt result
