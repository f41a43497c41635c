use Rattle.std.proofs.Common.{ℕ, List, Vec, Global, subst, sym, ap, ◌∙◌}
use Rattle.tp_meaning.specs.Trees.{Tree as PureTree}
use Rattle.tp_meaning.specs.Store.{text_in}
use Rattle.interpreter_store.specs.declared.cell_store.cells.Tree.{Tree}
use Rattle.interpreter_store.specs.cell_store.Views.{view_tree, view_parts}
use Rattle.interpreter_store.specs.cell_store.Finding.{Gets}
use Rattle.interpreter_store.proofs.cell_store.Rows.{view_of_parts}
use Rattle.interpreter_store.proofs.cell_store.cells.Tree.text.Goals as goal

pub returns-in-Parts : goal.returns-in-Parts
returns-in-Parts c =
    let whole = ap view_tree c.in-Parts.is ∙ view_of_parts c.in-Parts.parts in
    subst (λ (tree : PureTree). Gets (λ (text : Vec ℕ Global). text.items) c.text_of.result (text_in tree)) (sym whole)
    (subst (λ (parts : List Tree). Gets (λ (text : Vec ℕ Global). text.items) c.text_of.result (text_in (view_parts parts))) c.as_slice.ensures.value c.text_of.ensures)
