-- The parts so far are appended.
use Rattle.std.proofs.Common.{◌≡◌, ◌++◌, map, take}
use Rattle.interpreter_store.specs.cell_store.Views.{view_tree}
use Rattle.interpreter_store.proofs.typed_cells.assignment.append_copies.Given as goal

abbrev pub invariant-parts : goal.invariant-parts
invariant-parts l = map view_tree l.to.items ≡ map view_tree l.fn.to.items ++ map view_tree (take l.part-index l.parts)
