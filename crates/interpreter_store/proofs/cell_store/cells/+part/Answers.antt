use Rattle.std.proofs.Common.{◌∷◌, List, sym, ap, ◌∙◌, arith}
use Rattle.tp_meaning.specs.Trees.{Tree as PureTree, part_at}
use Rattle.interpreter_store.specs.declared.cell_store.cells.Tree.{Tree}
use Rattle.interpreter_store.specs.cell_store.Views.{view_tree, view_parts}
use Rattle.interpreter_store.proofs.cell_store.Rows.{view_of_parts, part_within, part_past}
use Rattle.interpreter_store.proofs.cell_store.cells.+part.Goals as goal

pub Tree::part_under-returns-in-Parts : goal.Tree::part_under-returns-in-Parts
Tree::part_under-returns-in-Parts t c =
    let path = c.args.n ∷ c.args.path.now in
    c.part_in.ensures
    ∙ ap (λ (parts : List Tree). part_at (view_parts parts) path) c.as_slice.ensures.value
    ∙ sym (ap (λ (tree : Tree). part_at (view_tree tree) path) c.in-Parts.is ∙ ap (λ (tree : PureTree). part_at tree path) (view_of_parts c.in-Parts.parts))

pub part_in-returns-then-n-parts : goal.part_in-returns-then-n-parts
part_in-returns-then-n-parts t c =
    let part = c.index-parts-n in
    c.part_at.ensures
    ∙ ap (λ (tree : Tree). part_at (view_tree tree) c.args.path.now) part.is
    ∙ sym (part_within c.args.parts.now c.args.n c.args.path.now part.result (omega (arith, c.if-n-parts.true)))

pub part_in-returns-else-n-parts : goal.part_in-returns-else-n-parts
part_in-returns-else-n-parts t c = sym (part_past c.args.parts.now c.args.n c.args.path.now (omega (arith, c.if-n-parts.false)))
