-- The bytes so far, and those of the cells that are left.
use Rattle.std.proofs.Common.{◌≡◌}
use Rattle.tp_meaning.specs.Store.{bytes_in}
use Rattle.interpreter_store.specs.cell_store.Views.{view_parts}
use Rattle.interpreter_store.proofs.cell_store.Texts.{after_prefix, bytes_from}
use Rattle.interpreter_store.proofs.cell_store.cells.bytes_of.Given as goal

abbrev pub invariant-cells : goal.invariant-cells
invariant-cells l = bytes_in l.count (view_parts l.cells) ≡ after_prefix l.bytes.items (bytes_from l.i l.count l.cells)
