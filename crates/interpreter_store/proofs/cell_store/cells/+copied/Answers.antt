use Rattle.std.proofs.Common.{map, sym, ap, ◌∙◌}
use Rattle.tp_meaning.specs.Trees.{chain}
use Rattle.interpreter_store.specs.cell_store.Views.{view_tree}
use Rattle.interpreter_store.proofs.cell_store.Rows.{view_of_parts}
use Rattle.interpreter_store.proofs.cell_store.cells.+copied.Goals as goal

pub Tree::copied-returns-in_ok-copies-in-Parts : goal.Tree::copied-returns-in_ok-copies-in-Parts
Tree::copied-returns-in_ok-copies-in-Parts t c =
    view_of_parts c.in_ok-copies-in-Parts.field-0
    ∙ ap chain (c.in_ok-copies-in-Parts.ensures ∙ ap (map view_tree) c.as_slice.ensures.value)
    ∙ sym (ap view_tree c.in-Parts.is ∙ view_of_parts c.in-Parts.parts)
