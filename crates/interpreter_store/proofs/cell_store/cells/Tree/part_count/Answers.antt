use Rattle.std.proofs.Common.{sym, ap, ◌∙◌}
use Rattle.tp_meaning.specs.Trees.{part_count}
use Rattle.interpreter_store.specs.declared.cell_store.cells.Tree.{Tree}
use Rattle.interpreter_store.specs.cell_store.Views.{view_tree}
use Rattle.interpreter_store.proofs.cell_store.Rows.{view_of_parts, count_of_parts}
use Rattle.interpreter_store.proofs.cell_store.cells.Tree.part_count.Goals as goal

pub returns-in-Parts : goal.returns-in-Parts
returns-in-Parts c =
    let parts = c.in-Parts.parts in
    c.len.ensures ∙ parts.ok.0 ∙ sym (ap (λ (tree : Tree). part_count (view_tree tree)) c.in-Parts.is ∙ ap part_count (view_of_parts parts) ∙ count_of_parts parts.items)
