use Rattle.std.proofs.Common.{subst, sym}
use Rattle.tp_meaning.specs.Trees.{Tree as PureTree}
use Rattle.tp_meaning.specs.Store.{text_over}
use Rattle.interpreter_store.specs.cell_store.Views.{view_tree}
use Rattle.interpreter_store.specs.cell_store.Finding.{Gets}
use Rattle.interpreter_store.proofs.cell_store.Texts.{first_part}
use Rattle.interpreter_store.proofs.cell_store.cells.text_over.Goals as goal

pub returns-in-len1-up : goal.returns-in-len1-up
returns-in-len1-up c =
    let first = first_part c.args.parts.now c.in-len1-up.len_at_least in
    subst (λ (tree : PureTree). Gets view_tree c.text_behind_length.result (text_over c.args.text.now tree)) (sym first.1) (c.text_behind_length.ensures first.0)
