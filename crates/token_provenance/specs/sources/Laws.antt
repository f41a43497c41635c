-- What the rules of typing ask of the texts of sources is so of each that is gathered.
use Rattle.std.specs.Prelude.{ℕ, All, List}
use Rattle.source_graph.specs.tp_outside.Folder.{Folder}
use Rattle.source_graph.specs.tp_lexer.declared.token.Text.{Text}
use Rattle.source_graph.specs.syntax_tree.declared.source_tree.source.Tree.{Tree}
use Rattle.source_graph.specs.syntax_tree.source_tree.Sources.{of_tree}
use Rattle.source_graph.specs.declared.sources.Source.{Source}
use Rattle.source_graph.specs.Walk.{Gathers}
use Rattle.units_well_formed.specs.units.Begun.{IsSource}
use Rattle.token_provenance.specs.leaves.Written.{IsSpelled, AreTexts}
use Rattle.token_provenance.specs.sources.Variables.{HasFewVariables}

-- A tree that is spelled keeps what the lexer gives, and not more `with`s inside one another than are numbered: of its variables
-- alone it can have too many.
abbrev pub TreeLaw : Type 0
TreeLaw = (tree : Tree) → IsSpelled (of_tree tree) → HasFewVariables tree → IsSource tree

-- So does the tree of each source that is gathered.
abbrev pub SourcesLaw : Type 0
SourcesLaw = (held : Folder) (name : List ℕ) (texts : List Text) (sources : List Source) → Gathers held name texts sources → AreTexts texts
    → All (λ (source : Source). HasFewVariables source.tree → IsSource source.tree) sources
