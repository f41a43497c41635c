use Rattle.initializer_meaning.proofs.initializer_trees.FirstTreeLaws.{first_trees}
use Rattle.initializer_meaning.proofs.initializer_trees.laws.first_tree_laws.Goals as goal

pub returns : goal.returns
returns c = first_trees
