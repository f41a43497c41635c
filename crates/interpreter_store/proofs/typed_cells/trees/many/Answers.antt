use Rattle.std.proofs.Common.{◌≡◌, suc, ◌+◌, ap, ◌∙◌, arith}
use Rattle.tp_meaning.specs.Trees.{many}
use Rattle.interpreter_store.specs.cell_store.Views.{view_tree, view_parts}
use Rattle.interpreter_store.proofs.typed_cells.Rows.{copies_more}
use Rattle.interpreter_store.proofs.typed_cells.trees.many.Goals as goal

pub parts-preserved : goal.parts-preserved
parts-preserved c =
    let part = view_tree c.args.part.now in
    let next : suc c.parts._i ≡ c.parts._i + 1 = omega arith in
    ap view_parts c.in_ok-push.ensures.items
    ∙ copies_more c.parts._i c.parts.parts.items c.in_ok-copy.copy part c.parts.invariant c.in_ok-copy.ensures
    ∙ ap (λ n. many n part) next
