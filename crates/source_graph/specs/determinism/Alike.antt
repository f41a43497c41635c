-- Sources that are alike: read of the same text, as trees that are spelled alike.
use Rattle.std.specs.Prelude.{◌≡◌, List}
use Rattle.std.specs.List.{AllZip}
use Rattle.ll1_grammar.specs.whole_trees.Whole.{IsWhole}
use Rattle.syntax_tree.specs.source_tree.Sources.{of_tree}
use Rattle.source_graph.specs.declared.sources.Source.{Source}

-- They differ in no more than what the grammar does not tell of their trees, and these have no gaps.
pub record IsAlike (one other : Source) : Type 0 where
  pub name : one.name ≡ other.name
  pub text : one.text ≡ other.text
  pub says : one.says ≡ other.says
  pub whole : IsWhole (of_tree one.tree)
  pub tree : of_tree one.tree ≡ of_tree other.tree

abbrev pub AreAlike : List Source → List Source → Type 0
AreAlike ones others = AllZip IsAlike ones others
