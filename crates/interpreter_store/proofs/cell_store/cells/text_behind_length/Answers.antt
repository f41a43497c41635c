use Rattle.std.proofs.Common.{ℕ, List, take, sym, ap, ◌∙◌}
use Rattle.std.specs.Prelude.{Ok}
use Rattle.tp_meaning.specs.Store.{cut_over}
use Rattle.interpreter_store.specs.cell_store.Views.{view_parts}
use Rattle.interpreter_store.proofs.cell_store.Rows.{count_of_parts}
use Rattle.interpreter_store.proofs.cell_store.cells.text_behind_length.Goals as goal

pub returns : goal.returns
returns c = λ head.
    let cells = c.args.cells.now in
    ap (λ n. Ok (cut_over (take n c.args.text.now) (view_parts cells))) (count_of_parts cells)
    ∙ ap (λ (bytes : List ℕ). Ok (cut_over bytes (view_parts cells))) (sym c.cut.ensures.value)
    ∙ ap Ok (sym c.in_ok-tree.ensures)
