use Rattle.std.proofs.Common.{map, ap, ◌∙◌}
use Rattle.tp_meaning.specs.Store.{value_in}
use Rattle.interpreter_store.specs.declared.cell_store.cells.Tree.{Tree}
use Rattle.interpreter_store.specs.cell_store.Views.{view_tree}
use Rattle.interpreter_store.proofs.cell_store.Rows.{view_of_parts, value_of_parts}
use Rattle.interpreter_store.proofs.cell_store.cells.Tree.value.Goals as goal

pub returns-in-Parts : goal.returns-in-Parts
returns-in-Parts c =
    ap (λ (tree : Tree). value_in (view_tree tree)) c.in-Parts.is
    ∙ ap value_in (view_of_parts c.in-Parts.field-0)
    ∙ value_of_parts (map view_tree c.in-Parts.field-0.items)
