-- The types before which a type stands get fewer.
use Rattle.std.proofs.Common.{◌≡◌, ◌+◌, ◌*◌, map, take}
use Rattle.tp_meaning.specs.Shapes.{part_tree, trees_of}
use Rattle.interpreter_store.specs.cell_store.Views.{view_tree}
use Rattle.interpreter_store.specs.typed_cells.Parts.{view_part}
use Rattle.interpreter_store.proofs.typed_cells.trees.+tree.Given as goal

abbrev pub decreases-tree_before : goal.decreases-tree_before
decreases-tree_before l = 4 * l.before

abbrev pub decreases-tree_by : goal.decreases-tree_by
decreases-tree_by l = 4 * l.before + 3

abbrev pub decreases-parts_tree : goal.decreases-parts_tree
decreases-parts_tree l = 4 * l.before + 2

abbrev pub decreases-part_tree : goal.decreases-part_tree
decreases-part_tree l = 4 * l.before + 1

-- the trees of the parts so far
abbrev pub invariant-parts_tree-parts : goal.invariant-parts_tree-parts
invariant-parts_tree-parts l = map view_tree l.trees.items ≡ map (part_tree (trees_of (take l.before l.types.types))) (map view_part (take l.part-index l.parts))
