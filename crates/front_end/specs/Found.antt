-- The sources of a program with the typed program that they are.
use Rattle.std.specs.Prelude.{ℕ, List}
use Rattle.tp_outside.specs.Folder.{Folder}
use Rattle.source_graph.specs.Walk.{Gathers}
use Rattle.front_end.specs.declared.program.TypedSources.{TypedSources}
use Rattle.front_end.specs.Typed.{IsProgram}

-- They are those of this name, by the files of a folder.
pub record IsFoundIn (held : Folder) (name : List ℕ) (found : TypedSources) : Type 0 where
  pub gathers : Gathers held name found.texts.items found.sources.items
  pub is : IsProgram found.sources.items found.program
