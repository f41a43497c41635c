use Rattle.std.proofs.Common.{◌≡◌, List, map, subst, sym, ap, ◌∙◌}
use Rattle.std.specs.Prelude.{IfOk}
use Rattle.interpreter_store.specs.declared.cell_store.cells.Tree.{Tree}
use Rattle.interpreter_store.specs.cell_store.Views.{view_tree, view_parts}
use Rattle.interpreter_store.proofs.cell_store.Rows.{view_of_parts}
use Rattle.tp_meaning.specs.Trees.{Tree as PureTree}
use Rattle.tp_meaning.specs.Store.{fields_over}
use Rattle.interpreter_store.specs.typed_cells.Parts.{view_part}
use Rattle.interpreter_store.proofs.typed_cells.Rows.{over_cell}
use Rattle.interpreter_store.proofs.typed_cells.assignment.parts_over.Goals as goal

pub returns-in-Leaf : goal.returns-in-Leaf
returns-in-Leaf c =
    let parts = map view_part c.args.parts.now in
    let olds = view_parts c.args.olds.now in
    let same : fields_over parts olds (view_tree c.args.new.now) ≡ olds = ap (λ (tree : Tree). fields_over parts olds (view_tree tree)) c.in-Leaf.is ∙ over_cell parts olds _ in
    subst (λ (whole : PureTree). IfOk c.copied_parts.result (λ tree. view_tree tree ≡ whole)) (sym same) c.copied_parts.ensures

pub returns-in-Parts : goal.returns-in-Parts
returns-in-Parts c =
    let parts = map view_part c.args.parts.now in
    let olds = view_parts c.args.olds.now in
    let whole = ap view_tree c.in-Parts.is ∙ view_of_parts c.in-Parts.news in
    subst (λ (new : PureTree). IfOk c.slices_over.result (λ tree. view_tree tree ≡ fields_over parts olds new)) (sym whole)
    (subst (λ (news : List Tree). IfOk c.slices_over.result (λ tree. view_tree tree ≡ fields_over parts olds (view_parts news))) c.as_slice.ensures.value c.slices_over.ensures)
