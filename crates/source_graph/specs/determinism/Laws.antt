-- What a folder holds under a name is read in one way, or refused in one way.
use Rattle.std.specs.Prelude.{◌≡◌, ℕ, List, take, drop}
use Rattle.tp_outside.specs.Folder.{Folder}
use Rattle.tp_lexer.specs.declared.token.Text.{Text}
use Rattle.syntax_tree.specs.declared.source_tree.source.Tree.{Tree}
use Rattle.syntax_tree.specs.source_tree.Sources.{of_tree, used, used_in_interface}
use Rattle.source_graph.specs.declared.error.GatherError.{GatherError}
use Rattle.source_graph.specs.declared.sources.Source.{Source}
use Rattle.source_graph.specs.Sources.{AreAlike as AreErrorsAlike}
use Rattle.source_graph.specs.Walk.{Gathers, IsRefused}
use Rattle.source_graph.specs.determinism.Alike.{AreAlike}

-- The sources of a program are gathered in one way, up to what the grammar does not tell of their trees.
abbrev pub OneReading : Type 0
OneReading = (held : Folder) (name : List ℕ) (texts others : List Text) (sources more : List Source)
    → Gathers held name texts sources → Gathers held name others more → (texts ≡ others) × AreAlike sources more

-- Sources that are gathered are not refused.
abbrev pub ReadOrRefused : Type 0
ReadOrRefused = (held : Folder) (name : List ℕ) (texts : List Text) (sources : List Source) → Gathers held name texts sources
    → (error : GatherError) → IsRefused held name error → ⊥

-- They are refused in one way: it is open only which of several features left out at one token is named.
abbrev pub OneRefusal : Type 0
OneRefusal = (held : Folder) (name : List ℕ) (one other : GatherError) → IsRefused held name one → IsRefused held name other → AreErrorsAlike one other

-- Trees that are spelled alike use the same units at the same places, in each of their parts.
pub record UseAlike (one other : Tree) : Type 0 where
  pub all : used one ≡ used other
  pub outer : take (used_in_interface one) (used one) ≡ take (used_in_interface other) (used other)
  pub inner : drop (used_in_interface one) (used one) ≡ drop (used_in_interface other) (used other)

abbrev pub AlikeUses : Type 0
AlikeUses = (one other : Tree) → of_tree one ≡ of_tree other → UseAlike one other
