use Rattle.std.proofs.Common.{ℕ, ◌+◌, List, Vec, Global, subst, sym, ap, ◌∙◌, arith}
use Rattle.std.specs.Prelude.{Err}
use Rattle.std.proofs.lemmas.Result.{err_from_is_err_and}
use Rattle.tp_meaning.specs.Store.{byte_in, bytes_in}
use Rattle.interpreter_store.specs.declared.cell_store.cells.Tree.{Tree}
use Rattle.interpreter_store.specs.cell_store.Views.{view_tree, view_parts}
use Rattle.interpreter_store.specs.cell_store.Finding.{Gets}
use Rattle.interpreter_store.proofs.cell_store.Texts.{after_prefix, bytes_from, bytes_first, bytes_more, bytes_stop}
use Rattle.interpreter_store.proofs.cell_store.cells.bytes_of.Goals as goal

pub cells-init : goal.cells-init
cells-init c =
    bytes_first c.args.cells.now c.args.count
    ∙ ap (λ (front : List ℕ). after_prefix front (bytes_from 0 c.args.count c.args.cells.now)) (sym c.new-bytes.ensures.items)

pub cells-preserved : goal.cells-preserved
cells-preserved c =
    let cell = c.index-cells-i in
    c.cells.invariant
    ∙ bytes_more c.cells.bytes.items c.in_ok-byte.byte c.cells.i c.args.cells.now c.args.count cell.result (omega arith) (omega arith) (ap (λ (x : Tree). byte_in (view_tree x)) (sym cell.is) ∙ c.in_ok-byte.ensures)
    ∙ ap (λ (front : List ℕ). after_prefix front (bytes_from (c.cells.i + 1) c.args.count c.args.cells.now)) (sym c.in_ok-push.ensures.items)

pub returns-in_err-byte : goal.returns-in_err-byte
returns-in_err-byte c =
    let p = err_from_is_err_and c.from_residual.result c.from_residual.ensures.1 in
    let cell = c.index-cells-i in
    let stop = c.in_err-byte.field-0.0 in
    let cells = c.args.cells.now in
    rw (p.1, p.2) (bytes_stop (λ (text : Vec ℕ Global). text.items) stop c.cells.bytes.items c.cells.i cells c.args.count cell.result (bytes_in c.args.count (view_parts cells)) (omega arith) (omega arith) c.cells.invariant
    (subst (λ (x : Tree). Gets {A = ℕ} (λ byte. byte) (Err stop) (byte_in (view_tree x))) cell.is c.in_err-byte.ensures))
