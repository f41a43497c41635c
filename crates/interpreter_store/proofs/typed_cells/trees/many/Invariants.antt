-- So many parts so far.
use Rattle.std.proofs.Common.{◌≡◌}
use Rattle.tp_meaning.specs.Trees.{many}
use Rattle.interpreter_store.specs.cell_store.Views.{view_tree, view_parts}
use Rattle.interpreter_store.proofs.typed_cells.trees.many.Given as goal

abbrev pub invariant-parts : goal.invariant-parts
invariant-parts l = view_parts l.parts.items ≡ many l._i (view_tree l.part)
