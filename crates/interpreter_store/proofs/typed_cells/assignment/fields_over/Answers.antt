use Rattle.std.proofs.Common.{◌≡◌, List, map, subst, sym, ap, ◌∙◌}
use Rattle.std.specs.Prelude.{IfOk}
use Rattle.interpreter_store.specs.declared.cell_store.cells.Tree.{Tree}
use Rattle.interpreter_store.specs.cell_store.Views.{view_tree, view_parts}
use Rattle.interpreter_store.proofs.cell_store.Rows.{view_of_parts}
use Rattle.tp_meaning.specs.Trees.{Tree as PureTree}
use Rattle.tp_meaning.specs.Store.{fields_over}
use Rattle.interpreter_store.specs.typed_cells.Parts.{view_part}
use Rattle.interpreter_store.proofs.typed_cells.assignment.fields_over.Goals as goal

pub returns-in-Parts : goal.returns-in-Parts
returns-in-Parts c =
    let parts = map view_part c.args.parts.now in
    let new = view_tree c.args.new.now in
    let whole = ap view_tree c.in-Parts.is ∙ view_of_parts c.in-Parts.olds in
    subst (λ (old : PureTree). IfOk c.parts_over.result (λ tree. view_tree tree ≡ fields_over parts old new)) (sym whole)
    (subst (λ (olds : List Tree). IfOk c.parts_over.result (λ tree. view_tree tree ≡ fields_over parts (view_parts olds) new)) c.as_slice.ensures.value c.parts_over.ensures)
