use Rattle.std.proofs.Common.{ℕ, List, subst, sym, ap, ◌∙◌}
use Rattle.tp_meaning.specs.Trees.{Tree as PureTree}
use Rattle.tp_meaning.specs.Store.{length_in}
use Rattle.interpreter_store.specs.declared.cell_store.cells.Tree.{Tree}
use Rattle.interpreter_store.specs.cell_store.Views.{view_tree, view_parts}
use Rattle.interpreter_store.specs.cell_store.Finding.{Gets}
use Rattle.interpreter_store.proofs.cell_store.Rows.{view_of_parts}
use Rattle.interpreter_store.proofs.cell_store.cells.Tree.length.Goals as goal

pub returns-in-Parts : goal.returns-in-Parts
returns-in-Parts c =
    let whole = ap view_tree c.in-Parts.is ∙ view_of_parts c.in-Parts.parts in
    subst (λ (tree : PureTree). Gets (λ (count : ℕ). count) c.length_of.result (length_in tree)) (sym whole)
    (subst (λ (parts : List Tree). Gets (λ (count : ℕ). count) c.length_of.result (length_in (view_parts parts))) c.as_slice.ensures.value c.length_of.ensures)
