-- The trees of the sources of a program are as sources spell them.
use Rattle.std.specs.Prelude.{ℕ, All, List}
use Rattle.source_graph.specs.tp_outside.Folder.{Folder}
use Rattle.source_graph.specs.tp_lexer.declared.token.Text.{Text}
use Rattle.source_graph.specs.syntax_tree.source_tree.Sources.{of_tree}
use Rattle.source_graph.specs.declared.sources.Source.{Source}
use Rattle.source_graph.specs.Walk.{Gathers}
use Rattle.token_provenance.specs.leaves.Written.{IsSpelled, AreTexts}

-- Each source that is gathered, from texts made of bytes, has such a tree.
abbrev pub SpelledLaw : Type 0
SpelledLaw = (held : Folder) (name : List ℕ) (texts : List Text) (sources : List Source) → Gathers held name texts sources
    → AreTexts texts → All (λ (source : Source). IsSpelled (of_tree source.tree)) sources
